use Rattle.std.proofs.Common.{◌≡◌, map, drop}
use Rattle.std.specs.List.{list_any}
use Rattle.log_groups.specs.Group.{has_changes}
use Rattle.log_groups.specs.GroupCalls.{waiting_value}
use Rattle.log_groups.proofs.waiting.any_waits.Given as goal

abbrev pub invariant-loop-one : goal.invariant-loop-one
invariant-loop-one l = list_any has_changes (map waiting_value (drop l.one-index l.waiting)) ≡ list_any has_changes (map waiting_value l.waiting)
