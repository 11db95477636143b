use Rattle.std.proofs.Common.{◌≡◌, drop, map}
use Rattle.checkpoint_places.specs.Least.{is_least}
use Rattle.checkpoint_places.proofs.least.is_least.Given as goal

-- it lies within all if within those that are left
abbrev pub invariant-loop-other : goal.invariant-loop-other
invariant-loop-other l = is_least (map (λ one. one.now) (drop l.other-index l.positions)) l.position ≡ is_least (map (λ one. one.now) l.positions) l.position
