-- What the events before a place in a feed say. The events before a place are a list with the latest one first.
use Rattle.std.specs.Prelude.{ℕ, List, [], ◌∷◌, ◌++◌, length, Bool, true, false, Option, None, Some, Result, Ok, Err, if◌then◌else◌}
use Rattle.std.specs.Option.{option_map, option_or}
use Rattle.std.specs.Str.{bytes_eq}
use Rattle.gtid_set.specs.Text.{position_of_text}
use Rattle.gtid_set.specs.declared.interval.Interval.{Interval}
use Rattle.gtid_set.specs.declared.fault.GtidFault.{GtidFault}
use Rattle.row_view.specs.FieldValue.{FieldValue}
use Rattle.vevent.specs.EventValue.{ChangeValue, EventValue, Gtid, Begin, Commit, Rollback, Row, Field, Vgtid}
use Rattle.source_feed.specs.SourceValue.{SourceValue, table_in_source, own_gtid}
use Rattle.source_feed.specs.GroupValue.{Position, TableChangeValue}

-- the events before a place, the latest one first
abbrev pub PastEvents : Type 0
PastEvents = List EventValue

-- a transaction is open: the last of BEGIN, COMMIT and ROLLBACK is a BEGIN
abbrev pub is_open : PastEvents → Bool
is_open [] = false
is_open (Begin ∷ earlier) = true
is_open (Commit ∷ earlier) = false
is_open (Rollback ∷ earlier) = false
is_open (event ∷ earlier) = is_open earlier

-- the columns of a table: those of its last FIELD, wherever that stands
abbrev pub last_field : SourceValue → PastEvents → List ℕ → Option (List FieldValue)
last_field source [] table = None
last_field source (Field name columns ∷ earlier) table = if bytes_eq (table_in_source source name) table then Some columns else last_field source earlier table
last_field source (event ∷ earlier) table = last_field source earlier table

-- how many columns a table has
abbrev pub width_of : SourceValue → PastEvents → List ℕ → Option ℕ
width_of source history table = option_map length (last_field source history table)

-- the set of a position text, where it is one
abbrev pub past_set : Result (List Interval) GtidFault → Option Position
past_set (Ok set) = Some set
past_set (Err fault) = None

abbrev pub past_set_of_text : Option (List ℕ) → Option Position
past_set_of_text None = None
past_set_of_text (Some text) = past_set (position_of_text text)

-- the position that an event carries: a GTID's, or a VGTID's of the feed's own shard
abbrev pub position_of : SourceValue → EventValue → Option Position
position_of source (Gtid text) = past_set_of_text (Some text)
position_of source (Vgtid entries) = past_set_of_text (own_gtid source entries)
position_of source event = None

-- the last position since the last BEGIN
abbrev pub body_position : SourceValue → PastEvents → Option Position
body_position source [] = None
body_position source (Begin ∷ earlier) = None
body_position source (event ∷ earlier) = option_or (position_of source event) (body_position source earlier)

-- a row change as one of its table; neither a row before nor a row after is no change
abbrev pub change_in : List ℕ → ChangeValue → List TableChangeValue
change_in table change = table_change table change.before change.after
  where
    table_change : List ℕ → Option (List (Option (List ℕ))) → Option (List (Option (List ℕ))) → List TableChangeValue
    table_change table None None = []
    table_change table before after = record { table = table; before = before; after = after } ∷ []

-- the changes of a ROW event, in order
abbrev pub changes_in : List ℕ → List ChangeValue → List TableChangeValue
changes_in table [] = []
changes_in table (change ∷ more) = change_in table change ++ changes_in table more

-- the changes since the last BEGIN, in order
abbrev pub body_changes : SourceValue → PastEvents → List TableChangeValue
body_changes source [] = []
body_changes source (Begin ∷ earlier) = []
body_changes source (Row name changes ∷ earlier) = body_changes source earlier ++ changes_in (table_in_source source name) changes
body_changes source (event ∷ earlier) = body_changes source earlier
