use Rattle.std.proofs.Common.{◌≡◌, ◌++◌, drop, map}
use Rattle.serde_json.specs.View.{view}
use Rattle.workflow_check.specs.Passed.{passed_by}
use Rattle.workflow_check.proofs.passed.push_stream.Given as goal

-- those so far, and those of the tables that are left, are the whole
abbrev pub invariant-loop-table : goal.invariant-loop-table
invariant-loop-table l = l.passed.items ++ passed_by l.stream l.rules (map view (drop l.table-index l.tables)) ≡ l.fn.passed.items ++ passed_by l.stream l.rules (map view l.tables)
