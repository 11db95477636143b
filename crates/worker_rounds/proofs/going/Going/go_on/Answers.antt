use Rattle.std.proofs.Common.{inl, inr}
use Rattle.stream_core.specs.declared.step.Step.TheVariants.{Advance}
use Rattle.worker_rounds.proofs.StepsOnRounds.{step-aside, aside-none, aside-trans}
use Rattle.worker_rounds.proofs.StreamsOnRounds.{may-still, went-on, through-on}
use Rattle.worker_rounds.proofs.going.Going.go_on.Goals as goal

pub returns-then-not-runs-clause-through : goal.returns-then-not-runs-clause-through
returns-then-not-runs-clause-through g c =
    λ fails. inl (c.runs.ensures.no c.if-not-runs.true)

pub returns-then-not-runs-clause-aside : goal.returns-then-not-runs-clause-aside
returns-then-not-runs-clause-aside g c =
    aside-none c.args.s c.args.self.now

pub returns-then-not-may_apply-clause-through : goal.returns-then-not-may_apply-clause-through
returns-then-not-may_apply-clause-through g c =
    λ fails. inr (λ feed before after at stood stands. inl (c.may_apply.ensures.no c.if-not-may_apply.true feed before after at stood stands))

pub returns-then-not-may_apply-clause-aside : goal.returns-then-not-may_apply-clause-aside
returns-then-not-may_apply-clause-aside g c =
    aside-none c.args.s c.args.self.now

pub returns-then-has_all-clause-through : goal.returns-then-has_all-clause-through
returns-then-has_all-clause-through g c =
    λ fails. inr (λ feed before after at stood stands. inr (c.has_all.ensures c.if-has_all.true feed before after at stood stands))

pub returns-then-has_all-clause-aside : goal.returns-then-has_all-clause-aside
returns-then-has_all-clause-aside g c =
    aside-none c.args.s c.args.self.now

pub returns-then-not-read_next-clause-through : goal.returns-then-not-read_next-clause-through
returns-then-not-read_next-clause-through g c =
    λ fails. inl (c.read_next.ensures.stopped c.if-not-read_next.true)

pub step-requires-clause-room : goal.step-requires-clause-room
step-requires-clause-room g c =
    λ e. may-still g.J.Began.fed g.J.Began.most c.args.self.now c.read_next.new.self c.is_on_round.ensures c.read_next.ensures.round c.args.s c.read_next.ensures.applied (c.may_apply.ensures.yes c.if-not-may_apply.false)

pub returns-clause-went : goal.returns-clause-went
returns-clause-went g c =
    went-on g.J.Began.fed g.J.Began.most c.args.self.now c.read_next.new.self c.step.new.self c.is_on_round.ensures c.read_next.ensures.round c.step.ensures.round c.args.s c.read_next.ensures.applied (c.read_next.ensures.runs c.if-not-read_next.false) c.step.result c.step.ensures.step

pub returns-clause-through : goal.returns-clause-through
returns-clause-through g c =
    through-on g.J.Began.fed g.J.Began.most c.args.self.now c.read_next.new.self c.step.new.self c.is_on_round.ensures c.read_next.ensures.round c.step.ensures.round c.args.s c.read_next.ensures.applied (c.read_next.ensures.runs c.if-not-read_next.false) c.step.result c.step.ensures.step

pub returns-clause-aside : goal.returns-clause-aside
returns-clause-aside g c =
    aside-trans c.args.s c.args.self.now c.read_next.new.self c.step.new.self c.read_next.ensures.aside (step-aside g.J.Began.fed.feeds c.args.s Advance c.step.result c.read_next.new.self c.step.new.self c.step.ensures.step)
