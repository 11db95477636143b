-- The first FIELD of a feed that differs from the workflow, and its words (this profile).
use Rattle.std.specs.Prelude.{ℕ, ◌+◌, List, [], ◌∷◌, ◌++◌, Option, None, Some, slice_get, codes, decimal, if◌then◌else◌}
use Rattle.std.specs.Option.{option_and_then, option_map, option_map_or}
use Rattle.std.specs.Str.{bytes_eq}
use Rattle.vevent.specs.ColumnView.{field_value}
use Rattle.row_view.specs.FieldValue.{FieldValue}
use Rattle.vevent.specs.EventValue.{EventValue, Field}
use Rattle.vevent.specs.Response.{response_of}
use Rattle.filter_rule.specs.PlanTable.{TableValue}
use Rattle.shown_text.specs.Shown.{shown}
use Rattle.filter_rule.specs.PlanValue.{PlanValue, columns_of, table_of_name}
use Rattle.source_feed.specs.Planned.{same_column, source_of}
use Rattle.source_feed.specs.SourceValue.{table_in_source}
use Rattle.check_said.specs.declared.field.Differing.{Differing}

-- ---- where it differs

-- a column in which a FIELD differs: the table's number, the column's place, and what the feed has there,
-- nothing where it has fewer columns
pub record DifferingValue : Type 0 where
  pub table : ℕ
  pub place : ℕ
  pub said : Option FieldValue

-- how one of the program is seen
abbrev pub differing_value : Differing → DifferingValue
differing_value d = record { table = d.table; place = d.place; said = option_map field_value d.said }

-- the first place at which columns differ, these being from a place on
abbrev pub first_differing : ℕ → List FieldValue → List FieldValue → Option (ℕ × Option FieldValue)
first_differing place [] [] = None
first_differing place [] (field ∷ fields) = Some (place, Some field)
first_differing place (column ∷ columns) [] = Some (place, None)
first_differing place (column ∷ columns) (field ∷ fields) = if same_column column field then first_differing (place + 1) columns fields else Some (place, Some field)

-- the columns of table t that some differ from
abbrev pub differing_at : PlanValue → List FieldValue → ℕ → Option DifferingValue
differing_at plan fields t = option_map (λ d. record { table = t; place = d.0; said = d.1 }) (first_differing 0 (columns_of plan t) fields)

-- a FIELD event of a planned table that differs from it
abbrev pub event_differing : PlanValue → EventValue → Option DifferingValue
event_differing plan (Field name fields) = option_and_then (differing_at plan fields) (table_of_name plan (table_in_source (source_of plan) name))
event_differing plan event = None

abbrev pub or_else : {A : Type 0} → Option A → Option A → Option A
or_else (Some x) other = Some x
or_else None other = other

-- the first of some events that differs
abbrev pub first_event : PlanValue → List EventValue → Option DifferingValue
first_event plan [] = None
first_event plan (event ∷ events) = or_else (event_differing plan event) (first_event plan events)

-- the first of some messages with an event that differs, these being numbered from one on
abbrev pub first_message : PlanValue → ℕ → List (List ℕ) → Option (ℕ × DifferingValue)
first_message plan i [] = None
first_message plan i (message ∷ messages) = or_else (option_map (λ found. (i, found)) (first_event plan (response_of message).items)) (first_message plan (i + 1) messages)

-- ---- in words, names as they are shown

-- a column of the feed beside that of the workflow
abbrev pub other_text : FieldValue → FieldValue → List ℕ
other_text column field =
    if bytes_eq column.name field.name
    then codes "column " ++ shown column.name ++ codes " type " ++ decimal field.type_number ++ codes " wanted " ++ decimal column.type_number
    else codes "column " ++ shown field.name ++ codes " wanted " ++ shown column.name

-- what the feed has in a column's place, and what the workflow has there
abbrev pub column_text : Option FieldValue → Option FieldValue → List ℕ
column_text (Some column) (Some field) = other_text column field
column_text (Some column) None = codes "column " ++ shown column.name ++ codes " missing"
column_text None (Some field) = codes "column " ++ shown field.name ++ codes " unwanted"
column_text None None = []

-- the table and the column in which a FIELD differs
abbrev pub table_text : DifferingValue → TableValue → List ℕ
table_text d table = codes "table " ++ shown table.name ++ codes " " ++ column_text (slice_get table.columns d.place) d.said

abbrev pub differing_text : PlanValue → DifferingValue → List ℕ
differing_text plan d = option_map_or (table_text d) (slice_get plan.tables d.table) []
