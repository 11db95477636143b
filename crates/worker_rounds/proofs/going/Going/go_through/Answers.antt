use Rattle.std.proofs.Common.{ℕ, ◌+◌, subst, arith}
use Rattle.worker_rounds.proofs.StepsOnRounds.{aside-none, aside-trans}
use Rattle.worker_rounds.proofs.RoundsEnd.{gained-far, gains-none, gains-one}
use Rattle.worker_rounds.specs.Private.OnRound.{Gains}
use Rattle.worker_rounds.proofs.going.Going.go_through.Goals as goal

pub loop-done-init : goal.loop-done-init
loop-done-init g c =
    (c.is_on_round.ensures, aside-none c.args.s c.args.self.now, gains-none g.J.Began.fed g.J.Began.most c.args.self.now c.args.s c.is_on_round.ensures)

pub returns-then-not-go_on-clause-through : goal.returns-then-not-go_on-clause-through
returns-then-not-go_on-clause-through g c =
    c.go_on.ensures.through c.if-not-go_on.true

pub returns-then-not-go_on-clause-aside : goal.returns-then-not-go_on-clause-aside
returns-then-not-go_on-clause-aside g c =
    aside-trans c.args.s c.args.self.now c.loop-done.self c.go_on.new.self c.loop-done.invariant.1 c.go_on.ensures.aside

pub loop-done-preserved : goal.loop-done-preserved
loop-done-preserved g c = (
  c.go_on.ensures.round,
  aside-trans c.args.s c.args.self.now c.loop-done.self c.go_on.new.self c.loop-done.invariant.1 c.go_on.ensures.aside,
  gains-one g.J.Began.fed g.J.Began.most c.loop-done.self c.go_on.new.self c.args.s c.loop-done._done (c.loop-done._done + 1) (omega arith) c.loop-done.invariant.0 c.go_on.ensures.round (c.go_on.ensures.went c.if-not-go_on.false) c.loop-done.invariant.2,
)

pub returns-clause-through : goal.returns-clause-through
returns-clause-through g c = gained-far g.J.Began.fed g.J.Began.most c.loop-done.self c.args.s c.loop-done.invariant.0 (subst (λ (n : ℕ). Gains c.args.s n g.J.Began.fed.board c.loop-done.self.board) (omega (arith, c.loop-done-test.false, c.loop-done.auto._done-end, c.requires.most)) c.loop-done.invariant.2)
