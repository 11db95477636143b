use Rattle.std.proofs.Common.{◌≡◌, ◌+◌, ◌-◌, ◌^◌, ◌≤◌, length}
use Rattle.checkpoint_places.specs.Stands.{counted}
use Rattle.checkpoint_places.proofs.reading.row_count.Given as goal

-- what is counted and what is still to come are all
abbrev pub invariant-loop-row : goal.invariant-loop-row
invariant-loop-row l = (l.count ≤ 2 ^ 64 - 1) × (counted (l.count + length l._row-iterator) ≡ counted (length l.fn.rows))
