use Rattle.std.proofs.Common.{◌-◌, ◌≤◌, length, take, drop}
use Rattle.pk_copy.specs.KeyOrder.{key_cmp}
use Rattle.target_tables.specs.Rising.{AreBelow, AreAbove}
use Rattle.dump.proofs.places.place_of.Given as goal

-- the key's place is from low up to high
abbrev pub invariant-loop-low : goal.invariant-loop-low
invariant-loop-low l = (l.low ≤ l.high) × (l.high ≤ length l.pairs) × AreBelow key_cmp l.key (take l.low l.pairs) × AreAbove key_cmp l.key (drop l.high l.pairs)

abbrev pub decreases-loop-low : goal.decreases-loop-low
decreases-loop-low l = l.high - l.low
