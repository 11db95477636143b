-- A plan as bytes that a caller walks over (this profile; include/vrepl.h has the walk).
use Rattle.std.specs.Prelude.{ℕ, ◌++◌, List, length}
use Rattle.std.specs.List.{flat_map}
use Rattle.row_view.specs.FieldValue.{FieldValue}
use Rattle.filter_rule.specs.PlanTable.{TableValue}
use Rattle.filter_rule.specs.PlanValue.{PlanValue}
use Rattle.vrepl_c.specs.Encoded.{bytes_behind, eight}

-- a column: its name and its type's number
abbrev pub column_bytes : FieldValue → List ℕ
column_bytes column = bytes_behind column.name ++ eight column.type_number

abbrev pub columns_bytes : List FieldValue → List ℕ
columns_bytes columns = flat_map column_bytes columns

-- the number of places of columns, and each of them
abbrev pub each_place : List ℕ → List ℕ
each_place places = flat_map eight places

abbrev pub places_bytes : List ℕ → List ℕ
places_bytes places = eight (length places) ++ each_place places

-- a table: its name, the number of its columns and each of them, the places of its key's columns, and of those that are kept
abbrev pub table_bytes : TableValue → List ℕ
table_bytes table =
    bytes_behind table.name ++ ((eight (length table.columns) ++ columns_bytes table.columns) ++ (places_bytes table.key ++ places_bytes table.kept))

abbrev pub tables_bytes : List TableValue → List ℕ
tables_bytes tables = flat_map table_bytes tables

-- a plan: the names of its keyspace and its shard, the number of its tables, and each of them
abbrev pub plan_bytes : PlanValue → List ℕ
plan_bytes plan = bytes_behind plan.keyspace ++ (bytes_behind plan.shard ++ (eight (length plan.tables) ++ tables_bytes plan.tables))
