-- The events of one group that stand in the place of a feed's first groups (this profile).
use Rattle.std.specs.Prelude.{◌≡◌, ℕ, List, [], ◌∷◌, ◌++◌, false, reverse, Some, None}
use Rattle.std.specs.List.{AllByRecursion}
use Rattle.gtid_set.specs.Position.{within_of}
use Rattle.vevent.specs.EventValue.{EventValue, Begin, Commit, Row, Field}
use Rattle.source_feed.specs.GroupValue.{Position, GroupValue}
use Rattle.source_feed.specs.SourceValue.{SourceValue, table_in_source}
use Rattle.source_feed.specs.PastEvents.{PastEvents, is_open, last_field, width_of, position_of}
use Rattle.source_feed.specs.Groups.{seen, groups_of, row_fault}

-- FIELDs, and behind them one transaction of ROWs, with an event that carries its position
abbrev pub base_events : List EventValue → List EventValue → EventValue → List EventValue
base_events fields rows place = fields ++ (Begin ∷ (rows ++ (place ∷ Commit ∷ [])))

-- a FIELD
abbrev pub IsField : EventValue → Type 0
IsField (Field name columns) = Unit {0}
IsField event = ⊥

-- a ROW whose rows have the columns that the history says of its table
abbrev pub IsRowUnder : SourceValue → PastEvents → EventValue → Type 0
IsRowUnder source history (Row name changes) = row_fault (width_of source history (table_in_source source name)) changes ≡ None
IsRowUnder source history event = ⊥

-- the last group of a history has this position
pub record HasLast (source : SourceValue) (history : PastEvents) (position : Position) : Type 0 where
  pub before : List GroupValue
  pub last : GroupValue
  pub groups : groups_of source history ≡ before ++ last ∷ []
  pub at : last.position ≡ position

-- FIELDs, ROWs and a position can stand for a history: no transaction is open at its end, and its last group has the position,
-- within which all earlier ones lie; the FIELDs say the columns that it says, and the ROWs have those.
pub record CanStandFor (source : SourceValue) (old : PastEvents) (fields rows : List EventValue) (place : EventValue) (position : Position) : Type 0 where
  pub outside : is_open old ≡ false
  pub behind_group : HasLast source old position
  pub only_fields : AllByRecursion IsField fields
  pub columns : (table : List ℕ) → last_field source (reverse fields) table ≡ last_field source old table
  pub only_rows : AllByRecursion (IsRowUnder source (reverse fields)) rows
  pub carries : position_of source place ≡ Some position
  pub reached : seen source old ≡ position
  pub from_empty : within_of position [] ≡ false
