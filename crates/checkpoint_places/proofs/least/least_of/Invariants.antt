use Rattle.std.proofs.Common.{◌≡◌, drop, map, find}
use Rattle.checkpoint_places.specs.Least.{is_least, least_of}
use Rattle.checkpoint_places.proofs.least.least_of.Given as goal

-- it is the first that lies within all of those that are left
abbrev pub invariant-loop-position : goal.invariant-loop-position
invariant-loop-position l = find (is_least (map (λ one. one.now) l.positions)) (map (λ one. one.now) (drop l.position-index l.positions)) ≡ least_of (map (λ one. one.now) l.positions)
