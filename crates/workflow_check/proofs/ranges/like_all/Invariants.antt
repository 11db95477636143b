use Rattle.std.proofs.Common.{◌≡◌, drop}
use Rattle.std.specs.List.{list_all}
use Rattle.workflow_check.specs.Ranges.{is_like, like_all}
use Rattle.workflow_check.proofs.ranges.like_all.Given as goal

-- all are so if those that are left are
abbrev pub invariant-loop-other : goal.invariant-loop-other
invariant-loop-other l = list_all (is_like l.range) (drop l.other-index l.ranges) ≡ like_all l.ranges l.range
