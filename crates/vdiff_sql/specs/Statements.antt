-- A patch as statements of SQL (the MySQL manual, 'INSERT', 'UPDATE' and 'DELETE').
use Rattle.std.specs.Prelude.{ℕ, true, List, [], ◌++◌, map, codes, slice_get}
use Rattle.std.specs.List.{flat_map}
use Rattle.std.specs.Option.{option_map_or}
use Rattle.filter_rule.specs.PlanTable.{TableValue}
use Rattle.pk_copy.specs.KeyValue.{KeyValue}
use Rattle.dump.specs.DumpRowsValue.{RowValue}
use Rattle.vdiff_patch.specs.Patch.{Cell, Change, update, insert, delete, Patch}
use Rattle.vdiff_sql.specs.Columns.{listed, row_column, name_of, type_of, row_names, row_literals}
use Rattle.vdiff_sql.specs.Keys.{where_text}
use Rattle.vdiff_sql.specs.Literals.{quoted_name, literal}

-- ---- a row's values

-- a value for a column
abbrev pub assignment : TableValue → Cell → List ℕ
assignment table cell = name_of (row_column table cell.0) ++ codes " = " ++ literal (type_of (row_column table cell.0)) cell.1

-- ---- statements

-- a table of a schema
abbrev pub table_text : List ℕ → TableValue → List ℕ
table_text schema table = quoted_name schema ++ codes "." ++ quoted_name table.name

-- an UPDATE up to its values
abbrev pub update_front : List ℕ → TableValue → List ℕ
update_front schema table = codes "UPDATE " ++ table_text schema table ++ codes " SET "

abbrev pub update_text : List ℕ → TableValue → KeyValue → List Cell → List ℕ
update_text schema table key cells = update_front schema table ++ listed (codes ", ") true (map (assignment table) cells) ++ where_text table key

-- an INSERT up to the names of its columns, and up to its values
abbrev pub insert_front : List ℕ → TableValue → List ℕ
insert_front schema table = codes "INSERT INTO " ++ table_text schema table ++ codes " ("

abbrev pub insert_names : List ℕ → TableValue → List ℕ
insert_names schema table = insert_front schema table ++ listed (codes ", ") true (row_names table) ++ codes ") VALUES ("

abbrev pub insert_text : List ℕ → TableValue → RowValue → List ℕ
insert_text schema table row = insert_names schema table ++ listed (codes ", ") true (row_literals table 0 row) ++ codes ");\n"

abbrev pub delete_text : List ℕ → TableValue → KeyValue → List ℕ
delete_text schema table key = codes "DELETE FROM " ++ table_text schema table ++ where_text table key

-- what changes a row of a table
abbrev pub statement : List ℕ → TableValue → KeyValue → Change → List ℕ
statement schema table key (update cells) = update_text schema table key cells
statement schema table key (insert row) = insert_text schema table row
statement schema table key delete = delete_text schema table key

-- the same of a change, in the table that its key says
abbrev pub statement_at : List ℕ → List TableValue → KeyValue × Change → List ℕ
statement_at schema tables change = option_map_or (λ table. statement schema table change.0 change.1) (slice_get tables change.0.table) []

-- a session in which values stand as they are, and in it one transaction
abbrev pub opening : List ℕ
opening = codes "SET NAMES utf8mb4, time_zone='+00:00', sql_mode='NO_AUTO_VALUE_ON_ZERO,ALLOW_INVALID_DATES', foreign_key_checks=0;\nSTART TRANSACTION;\n"

-- the statements of a patch, in its order
abbrev pub sql_text : List ℕ → List TableValue → Patch → List ℕ
sql_text schema tables patch = opening ++ flat_map (statement_at schema tables) patch ++ codes "COMMIT;\n"
