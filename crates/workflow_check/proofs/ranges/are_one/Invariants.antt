use Rattle.std.proofs.Common.{◌≡◌, drop}
use Rattle.std.specs.List.{list_all}
use Rattle.workflow_check.specs.Ranges.{are_one, one_with_all}
use Rattle.workflow_check.proofs.ranges.are_one.Given as goal

-- all are so if those that are left are
abbrev pub invariant-loop-range : goal.invariant-loop-range
invariant-loop-range l = list_all (one_with_all l.ranges) (drop l.range-index l.ranges) ≡ are_one l.ranges
