-- The names of a table's columns, as all FIELD events of a feed say them (this profile).
use Rattle.std.specs.Prelude.{ℕ, ◌&&◌, nat_lt, not, Bool, true, false, List, [], ◌∷◌, ◌++◌, length, Option, None, Some, if◌then◌else◌}
use Rattle.std.specs.List.{list_any}
use Rattle.std.specs.Str.{bytes_eq}
use Rattle.proto_wire.specs.Frame.{frames_of}
use Rattle.row_view.specs.FieldValue.{FieldValue}
use Rattle.vevent.specs.EventValue.{EventValue, Field}
use Rattle.vevent.specs.Response.{response_of}
use Rattle.source_feed.specs.SourceValue.{SourceValue, table_in_source}

-- the one's names are the first ones of the other
abbrev pub is_front : List FieldValue → List FieldValue → Bool
is_front [] others = true
is_front (column ∷ columns) [] = false
is_front (column ∷ columns) (other ∷ others) = bytes_eq column.name other.name && is_front columns others

-- names behind others: none is empty or stands twice, and there are at most 256
abbrev pub are_apart : List (List ℕ) → List FieldValue → Bool
are_apart before [] = true
are_apart before (column ∷ columns) =
    nat_lt (length before) 256 && nat_lt 0 (length column.name) && not (list_any (bytes_eq column.name) before) && are_apart (before ++ column.name ∷ []) columns

-- what FIELD events say of a table: the columns of a FIELD that has the most of them, and whether these name each column
-- as all the others do
pub record ToldColumns : Type 0 where
  pub columns : List FieldValue
  pub agreed : Bool

-- behind one more: it says nothing new where it names the first ones of these
abbrev pub told_with : Option ToldColumns → List FieldValue → ToldColumns
told_with None columns = record { columns = columns; agreed = are_apart [] columns }
told_with (Some told) columns =
    if is_front columns told.columns then told else record { columns = columns; agreed = (told.agreed && is_front told.columns columns) && are_apart [] columns }

-- the columns by whose names a row is told: none where the events don't agree
abbrev pub named_columns : Option ToldColumns → List FieldValue
named_columns None = []
named_columns (Some told) = if told.agreed then told.columns else []

-- ---- the events of a feed

-- behind an event: a FIELD says the columns of the table of its name
abbrev pub told_at : SourceValue → List ℕ → Option ToldColumns → EventValue → Option ToldColumns
told_at source table told (Field name columns) = if bytes_eq (table_in_source source name) table then Some (told_with told columns) else told
told_at source table told event = told

-- behind some events
abbrev pub told_behind : SourceValue → List ℕ → Option ToldColumns → List EventValue → Option ToldColumns
told_behind source table told [] = told
told_behind source table told (event ∷ events) = told_behind source table (told_at source table told event) events

-- behind some messages
abbrev pub told_in_messages : SourceValue → List ℕ → Option ToldColumns → List (List ℕ) → Option ToldColumns
told_in_messages source table told [] = told
told_in_messages source table told (message ∷ messages) = told_in_messages source table (told_behind source table told (response_of message).items) messages

-- the columns by whose names the rows of a table of a feed are told
abbrev pub columns_of : List ℕ → SourceValue → List ℕ → List FieldValue
columns_of feed source table = named_columns (told_in_messages source table None (frames_of feed).items)
