-- The FIELDs that are in force at a place of a feed, as their bytes (this profile).
use Rattle.std.specs.Prelude.{◌≡◌, ℕ, List, map, reverse, Ok}
use Rattle.std.specs.List.{AllByRecursion}
use Rattle.row_view.specs.FieldValue.{FieldValue}
use Rattle.vevent.specs.Event.{event_at}
use Rattle.vevent.specs.EventValue.{Field}
use Rattle.source_feed.specs.PastEvents.{PastEvents}
use Rattle.source_feed.specs.SourceValue.{SourceValue}
use Rattle.event_laws.specs.InForce.{in_force}

-- a FIELD as it stands in a feed: the name that its table has there, and the event's bytes
pub record FieldBytesValue : Type 0 where
  pub name : List ℕ
  pub bytes : List ℕ

-- the bytes are a FIELD of the table of this name
abbrev pub IsNamed : FieldBytesValue → Type 0
IsNamed field = (columns : List FieldValue) × (event_at field.bytes ≡ Ok (Field field.name columns))

-- these are the FIELDs that are in force behind a history, the earliest first
pub record AreInForce (source : SourceValue) (history : PastEvents) (fields : List FieldBytesValue) : Type 0 where
  pub named : AllByRecursion IsNamed fields
  pub events : map (λ field. event_at field.bytes) fields ≡ map Ok (reverse (in_force source history))
