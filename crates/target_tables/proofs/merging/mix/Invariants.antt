use Rattle.std.proofs.Common.{◌+◌, ◌≤◌, length}
use Rattle.target_tables.specs.Rising.{IsRising}
use Rattle.target_tables.proofs.Mixing.{Mixes}
use Rattle.target_tables.proofs.merging.mix.Given as goal

abbrev pub invariant-loop-entry : goal.invariant-loop-entry
invariant-loop-entry g l = IsRising g.K.Ord.cmp l.mixed.entries × Mixes g.K.Ord.cmp l.fn.one l.fn.other l.mixed.entries l.one l.other × (length l.one + length l.other ≤ l.left) × (length l.one + length l.other ≤ l.mixed.room)

abbrev pub decreases-loop-entry : goal.decreases-loop-entry
decreases-loop-entry g l = length l.one + length l.other
