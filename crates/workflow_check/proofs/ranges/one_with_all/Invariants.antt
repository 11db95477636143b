use Rattle.std.proofs.Common.{◌≡◌, drop}
use Rattle.std.specs.List.{list_all}
use Rattle.workflow_check.specs.Ranges.{one_with, one_with_all}
use Rattle.workflow_check.proofs.ranges.one_with_all.Given as goal

-- all are so if those that are left are
abbrev pub invariant-loop-other : goal.invariant-loop-other
invariant-loop-other l = list_all (one_with l.range) (drop l.other-index l.ranges) ≡ one_with_all l.ranges l.range
