use Rattle.std.proofs.Common.{◌≡◌, drop, map}
use Rattle.serde_json.specs.View.{view}
use Rattle.tiles_said.specs.Passing.{table_among}
use Rattle.tiles_said.proofs.passing.table_among.Given as goal

-- it is that of the tables that are left
abbrev pub invariant-loop-table : goal.invariant-loop-table
invariant-loop-table l = table_among l.name (map view (drop l.table-index l.tables)) ≡ table_among l.name (map view l.tables)
