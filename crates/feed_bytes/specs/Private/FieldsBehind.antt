-- The FIELDs in force behind an event more, that is there as bytes.
use Rattle.std.specs.Prelude.{ℕ, List, [], ◌∷◌, ◌++◌, Bool, not, Option, None, Some}
use Rattle.std.specs.List.{filter}
use Rattle.std.specs.Str.{bytes_eq}
use Rattle.vevent.specs.EventValue.{EventValue, Field}
use Rattle.source_feed.specs.SourceValue.{SourceValue, table_in_source}
use Rattle.feed_bytes.specs.FieldBytes.{FieldBytesValue}

-- the name of the table whose columns an event says
abbrev pub named_by : EventValue → Option (List ℕ)
named_by (Field name columns) = Some name
named_by event = None

-- a FIELD is of another table
abbrev pub is_of_another : SourceValue → List ℕ → FieldBytesValue → Bool
is_of_another source table field = not (bytes_eq (table_in_source source field.name) table)

-- behind the event of some bytes that says the columns of this table, or of none
abbrev pub behind_named : SourceValue → List FieldBytesValue → List ℕ → Option (List ℕ) → List FieldBytesValue
behind_named source fields bytes None = fields
behind_named source fields bytes (Some name) = filter (is_of_another source (table_in_source source name)) fields ++ record { name = name; bytes = bytes } ∷ []
