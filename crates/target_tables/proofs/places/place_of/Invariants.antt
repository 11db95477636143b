use Rattle.std.proofs.Common.{◌-◌, ◌≤◌, length, take, drop}
use Rattle.target_tables.specs.Rising.{AreBelow, AreAbove}
use Rattle.target_tables.proofs.places.place_of.Given as goal

-- the key's place is from low up to high
abbrev pub invariant-loop-low : goal.invariant-loop-low
invariant-loop-low g l = (l.low ≤ l.high) × (l.high ≤ length l.entries) × AreBelow g.K.Ord.cmp l.key (take l.low l.entries) × AreAbove g.K.Ord.cmp l.key (drop l.high l.entries)

abbrev pub decreases-loop-low : goal.decreases-loop-low
decreases-loop-low g l = l.high - l.low
