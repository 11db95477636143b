use Rattle.std.proofs.Common.{◌≡◌, drop}
use Rattle.std.specs.List.{list_all}
use Rattle.workflow_check.specs.Ranges.{are_alike, like_all}
use Rattle.workflow_check.proofs.ranges.are_alike.Given as goal

-- all are so if those that are left are
abbrev pub invariant-loop-range : goal.invariant-loop-range
invariant-loop-range l = list_all (like_all l.ranges) (drop l.range-index l.ranges) ≡ are_alike l.ranges
