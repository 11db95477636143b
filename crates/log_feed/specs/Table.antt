-- The tables of a feed (this profile).
use Rattle.std.specs.Prelude.{ℕ, ◌+◌, if◌then◌else◌, List, [], ◌∷◌, Option, Some, None, map, slice_index_or}
use Rattle.std.specs.Str.{bytes_eq}
use Rattle.row_view.specs.FieldValue.{FieldValue}
use Rattle.log_tables.specs.Column.{WantedValue, wanted_value}
use Rattle.log_feed.specs.declared.table.FeedTable as feed_table
use Rattle.log_feed.specs.declared.table.Stage.{Stage}
use Rattle.log_feed.specs.declared.table.Stage.TheVariants.{Absent}

-- a table: its name and its columns
pub record TableValue : Type 0 where
  pub name : List ℕ
  pub columns : List WantedValue

-- how one of the program is seen
abbrev pub table_value : feed_table.FeedTable → TableValue
table_value t = record { name = t.name.now; columns = map wanted_value t.columns.items }

-- a column as a feed says it
abbrev pub field_of : WantedValue → FieldValue
field_of w = record { name = w.name; type_number = w.type_number }

-- the table of a name and its place, from the one at a place on
abbrev pub table_from : ℕ → List ℕ → List TableValue → Option (ℕ × TableValue)
table_from t name [] = None
table_from t name (table ∷ tables) = if bytes_eq table.name name then Some (t, table) else table_from (t + 1) name tables

abbrev pub table_of : List ℕ → List TableValue → Option (ℕ × TableValue)
table_of name tables = table_from 0 name tables

-- what the logs so far say of the table at a place
abbrev pub stage_at : List Stage → ℕ → Stage
stage_at stages t = slice_index_or stages t Absent
