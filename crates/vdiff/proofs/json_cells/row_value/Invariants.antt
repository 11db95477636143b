use Rattle.std.proofs.Common.{◌≡◌, ◌++◌, map}
use Rattle.serde_json.specs.View.{view}
use Rattle.vdiff.specs.Json.{cell_data}
use Rattle.vdiff.proofs.json_cells.row_value.Given as goal

-- the cells so far and those that are left are the row
abbrev pub invariant-loop-column : goal.invariant-loop-column
invariant-loop-column l = map view l.cells.items ++ map cell_data l.column-iterator ≡ map cell_data l.fn.columns
