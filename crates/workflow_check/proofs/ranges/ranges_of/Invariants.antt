use Rattle.std.proofs.Common.{◌≡◌, ◌++◌, drop, map}
use Rattle.serde_json.specs.View.{view}
use Rattle.workflow_check.specs.Ranges.{ranges_of}
use Rattle.workflow_check.proofs.ranges.ranges_of.Given as goal

-- the ranges so far, and those of the streams that are left, are the whole
abbrev pub invariant-loop-stream : goal.invariant-loop-stream
invariant-loop-stream l = l.ranges.items ++ ranges_of (view l.table) (map view (drop l.stream-index l.streams)) ≡ ranges_of (view l.table) (map view l.streams)
