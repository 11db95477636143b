-- What the reader over a feed's events keeps, against all events before.
use Rattle.std.specs.Prelude.{◌≡◌, ℕ, ◌+◌, List, ◌∷◌, ◌++◌, length, Option, None, Some, Result, Ok, Err, map, if◌then◌else◌}
use Rattle.std.specs.Option.{option_map}
use Rattle.gtid_set.specs.Position.{IsCanonical}
use Rattle.vevent.specs.EventValue.{EventValue}
use Rattle.source_feed.specs.declared.fault.FeedFault.{FeedFault}
use Rattle.source_feed.specs.declared.transaction.Transaction.{Transaction}
use Rattle.source_feed.specs.declared.group_reader.GroupReader.{GroupReader}
use Rattle.source_feed.specs.Private.BlockEnd.{last_position}
use Rattle.source_feed.specs.Private.Start.{start_position, reached_in}
use Rattle.list_laws.specs.Outcome.{Refuses, IsFault}
use Rattle.source_feed.specs.FaultNumber.{meant_of}
use Rattle.source_feed.specs.GroupValue.{Position, TableChangeValue, GroupValue}
use Rattle.source_feed.specs.SourceValue.{SourceValue}
use Rattle.source_feed.specs.PastEvents.{PastEvents, is_open, width_of, body_position, body_changes}
use Rattle.source_feed.specs.Groups.{seen, groups_of, fault_at}
use Rattle.source_feed.specs.Private.FeedTables.{width_in, names_in, counted}
use Rattle.source_feed.specs.Private.KeptGroups.{named, named_group}

-- what an open transaction has so far
pub record Body : Type 0 where
  pub position : Option Position
  pub changes : List TableChangeValue

abbrev pub body_of : SourceValue → PastEvents → Option Body
body_of source history = if is_open history then Some (record { position = body_position source history; changes = body_changes source history }) else None

-- what is kept of it, where the tables have these names
abbrev pub body_held : List (List ℕ) → Option Transaction → Option Body
body_held names None = None
body_held names (Some transaction) = Some (record { position = transaction.position; changes = map (named names) transaction.changes.items })

-- how many groups and tables there are, with the groups before the reader's: an event adds one at most
abbrev pub count_of : GroupReader → ℕ
count_of reader = reader.start.groups + length reader.groups.items + length (names_in reader.tables)

-- The reader keeps what these events say, whatever tables the feed names later, with the last group's
-- position alone in place of the union of all earlier positions. The groups of its start stand before its own.
pub record IsBehind (base : List GroupValue) (source : SourceValue) (history : PastEvents) (reader : GroupReader) : Type 0 where
  pub start : reader.start.groups ≡ length base
  pub reached : start_position reader.start ≡ reached_in base
  pub body : (later : List (List ℕ)) → body_held (names_in reader.tables ++ later) reader.transaction ≡ body_of source history
  pub widths : (table : List ℕ) → width_in reader.tables table ≡ option_map counted (width_of source history table)
  pub groups : (later : List (List ℕ)) → base ++ map (named_group (names_in reader.tables ++ later)) reader.groups.items ≡ groups_of source history
  pub last : last_position (start_position reader.start) reader.groups.items ≡ seen source history
  pub seen_canonical : IsCanonical (seen source history)
  pub body_canonical : (position : Position) → body_position source history ≡ Some position → IsCanonical position

-- what a call that takes one more event answers and leaves
abbrev pub TakesEvent : {X : Type 0} → List GroupValue → SourceValue → PastEvents → EventValue → Result X FeedFault → GroupReader → Type 0
TakesEvent base source earlier event (Ok x) new = (fault_at source earlier event ≡ None) × IsBehind base source (event ∷ earlier) new
TakesEvent base source earlier event (Err fault) new = IsFault meant_of fault (fault_at source earlier event)

-- what a call that takes some more events answers and leaves, where they say this
abbrev pub TakesEvents : {X : Type 0} → List GroupValue → SourceValue → Result PastEvents FeedFault → Result X FeedFault → GroupReader → Type 0
TakesEvents base source expected (Ok x) new = (history : PastEvents) × (expected ≡ Ok history) × IsBehind base source history new
TakesEvents base source expected (Err fault) new = Refuses meant_of fault expected
