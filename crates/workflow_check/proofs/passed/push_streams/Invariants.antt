use Rattle.std.proofs.Common.{◌≡◌, ◌++◌, drop, map}
use Rattle.serde_json.specs.View.{view}
use Rattle.workflow_check.specs.Passed.{passed_from}
use Rattle.workflow_check.proofs.passed.push_streams.Given as goal

-- those so far, and those of the streams that are left, are the whole
abbrev pub invariant-loop-i : goal.invariant-loop-i
invariant-loop-i l = l.passed.items ++ passed_from (map view l.tables) l.i (map view (drop l.i l.streams)) ≡ l.fn.passed.items ++ passed_from (map view l.tables) 0 (map view l.streams)
