use Rattle.std.specs.List.{AllByRecursion}
use Rattle.worker_rounds.specs.Private.OnRound.{IsReady}
use Rattle.worker_rounds.proofs.place.Place.readies.Given as goal

-- those so far are ready
abbrev pub invariant-loop-n : goal.invariant-loop-n
invariant-loop-n g l = AllByRecursion (IsReady g.J.Began.fed l.self.stream) l.readies.items
