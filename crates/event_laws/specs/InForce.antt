-- The FIELDs that are in force at a place: the last one of each table, the latest first (this profile).
use Rattle.std.specs.Prelude.{ℕ, List, [], ◌∷◌, Bool, true, not}
use Rattle.std.specs.List.{filter}
use Rattle.std.specs.Str.{bytes_eq}
use Rattle.vevent.specs.EventValue.{EventValue, Field}
use Rattle.source_feed.specs.SourceValue.{SourceValue, table_in_source}
use Rattle.source_feed.specs.PastEvents.{PastEvents}

-- it is no FIELD of this table
abbrev pub is_of_other : SourceValue → List ℕ → EventValue → Bool
is_of_other source table (Field name columns) = not (bytes_eq (table_in_source source name) table)
is_of_other source table event = true

abbrev pub in_force : SourceValue → PastEvents → PastEvents
in_force source [] = []
in_force source (Field name columns ∷ earlier) = Field name columns ∷ filter (is_of_other source (table_in_source source name)) (in_force source earlier)
in_force source (event ∷ earlier) = in_force source earlier
