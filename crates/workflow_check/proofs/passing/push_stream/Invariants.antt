use Rattle.std.proofs.Common.{◌≡◌, ◌++◌, drop, map}
use Rattle.std.specs.String.{string_bytes}
use Rattle.serde_json.specs.View.{view}
use Rattle.workflow_check.specs.Passing.{stream_lines}
use Rattle.workflow_check.proofs.passing.push_stream.Given as goal

-- the text so far, and the lines of the tables that are left, are the whole
abbrev pub invariant-loop-table : goal.invariant-loop-table
invariant-loop-table l = string_bytes l.text ++ stream_lines l.i l.rules (map view (drop l.table-index l.tables)) ≡ string_bytes l.fn.text ++ stream_lines l.i l.rules (map view l.tables)
