use Rattle.std.proofs.Common.{subst}
use Rattle.std.specs.List.{AllByRecursion}
use Rattle.worker_rounds.specs.Private.OnRound.{IsReady}
use Rattle.worker_rounds.proofs.going.Going.take_in_all.Goals as goal

pub take_in-requires-clause-ready : goal.take_in-requires-clause-ready
take_in-requires-clause-ready g c =
    (subst (AllByRecursion (IsReady g.J.Began.fed c.args.s)) c.in-Some.ensures.steps.0 c.loop-ready.invariant.2).0

pub loop-ready-preserved : goal.loop-ready-preserved
loop-ready-preserved g c =
    (tt, tt, (subst (AllByRecursion (IsReady g.J.Began.fed c.args.s)) c.in-Some.ensures.steps.0 c.loop-ready.invariant.2).1)
