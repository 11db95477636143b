use Rattle.std.proofs.Common.{◌≡◌, drop}
use Rattle.workflow_check.specs.Ranges.{next_at}
use Rattle.workflow_check.proofs.ranges.next_at.Given as goal

-- the range is that among those that are left
abbrev pub invariant-loop-range : goal.invariant-loop-range
invariant-loop-range l = next_at (drop l.range-index l.ranges) l.end ≡ next_at l.ranges l.end
