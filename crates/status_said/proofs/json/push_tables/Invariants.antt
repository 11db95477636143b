use Rattle.std.proofs.Common.{◌≡◌, ◌++◌, drop, map}
use Rattle.serde_json.specs.View.{view}
use Rattle.status_said.specs.Json.{table_data}
use Rattle.status_said.proofs.json.push_tables.Given as goal

-- the values so far, and those of what is left, are the whole
abbrev pub invariant-loop-table : goal.invariant-loop-table
invariant-loop-table l = map view l.values.items ++ map table_data (drop l.table-index l.tables) ≡ map view l.fn.values.items ++ map table_data l.tables
