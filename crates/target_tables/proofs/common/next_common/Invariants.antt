use Rattle.std.proofs.Common.{◌≡◌, ◌+◌, length}
use Rattle.target_tables.specs.Common.{common}
use Rattle.target_tables.specs.Rising.{IsRising}
use Rattle.target_tables.proofs.common.next_common.Given as goal

abbrev pub invariant-loop-key : goal.invariant-loop-key
invariant-loop-key g l = IsRising g.K.Ord.cmp l.one × IsRising g.K.Ord.cmp l.other × (common g.K.Ord.cmp l.one l.other ≡ common g.K.Ord.cmp l.fn.one l.fn.other)

abbrev pub decreases-loop-key : goal.decreases-loop-key
decreases-loop-key g l = length l.one + length l.other
