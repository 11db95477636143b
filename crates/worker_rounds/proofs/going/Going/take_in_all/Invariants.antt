use Rattle.std.specs.List.{AllByRecursion}
use Rattle.std.specs.Vec.Iter.{into_iter_items}
use Rattle.worker_rounds.specs.Private.OnRound.{IsReady}
use Rattle.worker_rounds.proofs.going.Going.take_in_all.Given as goal

-- the groups to come stand ready
abbrev pub invariant-loop-ready : goal.invariant-loop-ready
invariant-loop-ready g l =
    (goal.iterator-loop-ready g).can_next l.ready-iterator × (goal.iterator-loop-ready g).is_finite l.ready-iterator × AllByRecursion (IsReady g.J.Began.fed l.s) (into_iter_items l.ready-iterator)
