use Rattle.std.proofs.Common.{◌≡◌, ◌+◌, ℕ, List, length, Some, slice_get, ap, subst, arith}
use Rattle.worker_rounds.specs.Rounds.{OfStream}
use Rattle.worker_rounds.specs.Private.OnRound.{Gone, MayApply}
use Rattle.worker_rounds.proofs.StreamsOnRounds.{not-none, first-count, may-yes, may-no}
use Rattle.worker_rounds.proofs.going.Going.may_apply.Goals as goal

pub unreachable-requires : goal.unreachable-requires
unreachable-requires g c =
    not-none g.J.Began.fed g.J.Began.most (record { board = c.self.inside.board; stopped = c.self.inside.stopped.items; first = c.self.inside.first.items }) c.self.invariant c.args.s c.requires.there c.in_default.ensures.no_stream.1

pub first_of-requires : goal.first_of-requires
first_of-requires g c =
    omega (arith, c.requires.there, first-count g.J.Began.fed g.J.Began.most (record { board = c.self.inside.board; stopped = c.self.inside.stopped.items; first = c.self.inside.first.items }) c.self.invariant, ap (λ (xs : List ℕ). length xs) c.deref.ensures.value)

pub returns-clause-yes : goal.returns-clause-yes
returns-clause-yes g c = λ holds.
    let less = c.is_short.ensures.yes holds in
    subst (λ (x : Gone). MayApply g.J.Began.most g.J.Began.fed.board x.board c.args.s) c.self.view_is
    (may-yes g.J.Began.fed g.J.Began.most (record { board = c.self.inside.board; stopped = c.self.inside.stopped.items; first = c.self.inside.first.items }) c.self.invariant c.args.s c.first_of.result c.in-Ok.at (subst (λ (xs : List ℕ). slice_get xs c.args.s ≡ Some c.first_of.result) c.deref.ensures.value c.first_of.ensures)
    c.in-Ok.ensures.state (omega (arith, less, c.applied.ensures, c.requires.most)))

pub returns-clause-no : goal.returns-clause-no
returns-clause-no g c = λ fails.
    let more = c.is_short.ensures.no fails in
    subst (λ (x : Gone). OfStream (λ feed before after. after.applied ≡ before.applied + g.J.Began.most) g.J.Began.fed.feeds g.J.Began.fed.board x.board c.args.s) c.self.view_is
    (may-no g.J.Began.fed g.J.Began.most (record { board = c.self.inside.board; stopped = c.self.inside.stopped.items; first = c.self.inside.first.items }) c.self.invariant c.args.s c.first_of.result c.in-Ok.at (subst (λ (xs : List ℕ). slice_get xs c.args.s ≡ Some c.first_of.result) c.deref.ensures.value c.first_of.ensures)
    c.in-Ok.ensures.state (omega (arith, more, c.applied.ensures, c.requires.most)))
