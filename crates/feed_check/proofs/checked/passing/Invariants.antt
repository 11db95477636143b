use Rattle.std.proofs.Common.{◌≡◌, ◌+◌, drop, map}
use Rattle.std.specs.Arc.{arc_value}
use Rattle.feed_check.specs.Checked.{passing_groups}
use Rattle.feed_check.proofs.checked.passing.Given as goal

-- the count so far, and that of the groups that are left, are that of all
abbrev pub invariant-loop-group : goal.invariant-loop-group
invariant-loop-group l = l.count + passing_groups l.t (map arc_value (drop l.group-index l.groups)) ≡ passing_groups l.t (map arc_value l.groups)
