use Rattle.std.proofs.Common.{◌≡◌, ◌-◌, length}
use Rattle.apply_core.specs.Private.Meeting.{AreSidesUpTo}
use Rattle.apply_core.proofs.join_rows.sides_of.Given as goal

-- the sides of the streams so far
abbrev pub invariant-loop-s : goal.invariant-loop-s
invariant-loop-s l = (length l.sides.items ≡ l.s) × AreSidesUpTo l.s l.a.streams l.b.streams l.sides.items

abbrev pub decreases-loop-s : goal.decreases-loop-s
decreases-loop-s l = length l.a.streams - l.s
