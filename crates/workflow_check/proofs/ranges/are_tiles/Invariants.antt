use Rattle.std.proofs.Common.{◌≡◌, drop, Some, []}
use Rattle.std.specs.Option.{option_copied}
use Rattle.workflow_check.specs.Ranges.{leads, are_tiles}
use Rattle.workflow_check.proofs.ranges.are_tiles.Given as goal

-- the steps that are left lead to the open end, if all do
abbrev pub invariant-loop-step : goal.invariant-loop-step
invariant-loop-step l = leads l.ranges (drop l._step-index l.ranges) (option_copied l.covered) ≡ are_tiles l.ranges
