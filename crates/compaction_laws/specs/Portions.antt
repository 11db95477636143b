-- Rows as ROW events that insert them: portions of one table each (this profile).
use Rattle.std.specs.Prelude.{◌≡◌, ◌<◌, ℕ, List, map, length, None, Some}
use Rattle.std.specs.List.{AllByRecursion, flat_map}
use Rattle.filter_rule.specs.PlanValue.{PlanValue, table_of_name}
use Rattle.row_view.specs.FieldValue.{FieldValue}
use Rattle.vevent.specs.EventValue.{EventValue, Row}
use Rattle.source_feed.specs.Image.{ImageRows}
use Rattle.source_feed.specs.PastEvents.{PastEvents, last_field}
use Rattle.source_feed.specs.Planned.{source_of}
use Rattle.source_feed.specs.SourceValue.{table_in_source}

-- rows of one table, under the name that the feed has of it
pub record Portion : Type 0 where
  pub name : List ℕ
  pub rows : ImageRows

-- the ROW that inserts them
abbrev pub event_of : Portion → EventValue
event_of portion = Row portion.name (map (λ row. record { before = None; after = Some row.1 }) portion.rows)

-- the rows of portions, one after another
abbrev pub rows_of : List Portion → ImageRows
rows_of portions = flat_map (λ portion. portion.rows) portions

-- a portion is of a planned table, of which the history says the columns; its keys are of this table, and its rows have
-- these columns
pub record IsPortion (plan : PlanValue) (history : PastEvents) (portion : Portion) : Type 0 where
  pub table : ℕ
  pub planned : table_of_name plan (table_in_source (source_of plan) portion.name) ≡ Some table
  pub columns : List FieldValue
  pub known : last_field (source_of plan) history (table_in_source (source_of plan) portion.name) ≡ Some columns
  pub keys : AllByRecursion (λ row. row.0.table ≡ table) portion.rows
  pub fit : AllByRecursion (λ row. length row.1 ≡ length columns) portion.rows

-- a portion is of one planned table, to which its name in the feed leads: it has rows, and their keys are of this table
pub record IsOfOneTable (plan : PlanValue) (portion : Portion) : Type 0 where
  pub table : ℕ
  pub planned : table_of_name plan (table_in_source (source_of plan) portion.name) ≡ Some table
  pub keys : AllByRecursion (λ row. row.0.table ≡ table) portion.rows
  pub some : 0 < length portion.rows
