use Rattle.std.proofs.Common.{◌≡◌, drop, map}
use Rattle.serde_json.specs.View.{view}
use Rattle.tiles_said.specs.Sources.{with_tables}
use Rattle.tiles_said.proofs.sources.push_tables.Given as goal

-- with those of the tables that are left they are all
abbrev pub invariant-loop-table : goal.invariant-loop-table
invariant-loop-table l = with_tables l.names.items (map view (drop l.table-index l.tables)) ≡ with_tables l.fn.names.items (map view l.tables)
