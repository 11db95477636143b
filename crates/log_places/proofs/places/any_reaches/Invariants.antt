use Rattle.std.proofs.Common.{◌≡◌, drop}
use Rattle.std.specs.List.{list_any}
use Rattle.log_places.specs.Private.Next.{reaches_up_to}
use Rattle.log_places.proofs.places.any_reaches.Given as goal

abbrev pub invariant-loop-one : goal.invariant-loop-one
invariant-loop-one l = list_any (reaches_up_to l.added) (drop l.one-index l.intervals) ≡ list_any (reaches_up_to l.added) l.intervals
