-- Laws of events, as statements: each is the contract of a function without a body.
use Rattle.std.specs.Prelude.{◌≡◌, ℕ, ◌+◌, ◌-◌, ◌^◌, ◌<◌, List, [], ◌∷◌, ◌++◌, length, drop, map, reverse, None, Some, Result, Ok, Err}
use Rattle.std.specs.List.{AllByRecursion, flat_map}
use Rattle.row_view.specs.FieldValue.{FieldValue}
use Rattle.vevent.specs.EventValue.{EventValue}
use Rattle.vevent.specs.Event.{event_at}
use Rattle.source_feed.specs.declared.fault.FeedFault.{FeedFault}
use Rattle.source_feed.specs.EventList.{events_of_feed}
use Rattle.source_feed.specs.GroupValue.{Position, GroupValue}
use Rattle.source_feed.specs.Grammar.{changes_at}
use Rattle.source_feed.specs.Pieces.{AreWhole}
use Rattle.source_feed.specs.SourceValue.{SourceValue}
use Rattle.source_feed.specs.PastEvents.{PastEvents, last_field}
use Rattle.source_feed.specs.Groups.{Block, groups_of, first_fault, groups_in, groups}
use Rattle.event_laws.specs.Alike.{AnswerAlike, GoOnAlike, lowered_group, lowered_fault}
use Rattle.event_laws.specs.BaseEvents.{base_events, IsField, CanStandFor}
use Rattle.event_laws.specs.Cuts.{EndsGroup, IsCut}
use Rattle.event_laws.specs.InForce.{in_force}
use Rattle.event_laws.specs.WrittenMessages.{written_messages}

-- behind histories that answer alike all later events go on alike
abbrev pub EventsGoOnAlike : Type 0
EventsGoOnAlike = (source : SourceValue) (fewer : ℕ) (old new later : PastEvents) → AnswerAlike source fewer old new → GoOnAlike source fewer old new later

-- a group that is the first of a feed, with the changes of some events
abbrev pub first_group : SourceValue → List EventValue → Position → GroupValue
first_group source rows position = record { number = 1; position = position; changes = flat_map (changes_at source) rows }

-- the events of a base that can stand for a history have no fault, make one group, and answer as the history does
pub record StandsFor (source : SourceValue) (old : PastEvents) (rows : List EventValue) (position : Position) (new : PastEvents) : Type 0 where
  pub faultless : first_fault source new ≡ None
  pub one : groups_of source new ≡ first_group source rows position ∷ []
  pub alike : AnswerAlike source (length (groups_of source old) - 1) old new

abbrev pub BasesStandFor : Type 0
BasesStandFor =
    (source : SourceValue) (old : PastEvents) (fields rows : List EventValue) (place : EventValue) (position : Position) → CanStandFor source old fields rows place position
    → StandsFor source old rows position (reverse (base_events fields rows place))

-- behind a group's last event a feed can be cut
abbrev pub GroupsEndAtCuts : Type 0
GroupsEndAtCuts = (source : SourceValue) (earlier : PastEvents) (event : EventValue) (block : Block) → EndsGroup source earlier event block → IsCut source (event ∷ earlier) block

-- the groups of some events to their end
abbrev pub groups_to_end : SourceValue → List EventValue → Result (List GroupValue) FeedFault
groups_to_end source events = groups_in source (record { items = events; fault = None })

-- how many groups some events have
abbrev pub groups_in_front : SourceValue → List EventValue → ℕ
groups_in_front source front = length (groups_of source (reverse front))

-- Events of which a base stands for the front make the base's group and the old groups behind it; or they have the fault that
-- the old ones have, where none of the front has one.
pub record IsCompactedRun (source : SourceValue) (front fields rows : List EventValue) (place : EventValue) (position : Position) (behind : List EventValue) : Type 0 where
  pub given : (old : List GroupValue) → groups_to_end source (front ++ behind) ≡ Ok old
      → groups_to_end source (base_events fields rows place ++ behind)
      ≡ Ok (first_group source rows position ∷ map (lowered_group (groups_in_front source front - 1)) (drop (groups_in_front source front) old))
  pub refused : (fault : FeedFault) → first_fault source (reverse front) ≡ None → groups_to_end source (front ++ behind) ≡ Err fault
      → groups_to_end source (base_events fields rows place ++ behind) ≡ Err (lowered_fault (groups_in_front source front - 1) fault)

abbrev pub FeedsAreCompacted : Type 0
FeedsAreCompacted =
    (source : SourceValue) (front fields rows : List EventValue) (place : EventValue) (position : Position) (behind : List EventValue)
    → CanStandFor source (reverse front) fields rows place position → IsCompactedRun source front fields rows place position behind

-- the FIELDs in force say the columns that the history says, and are no other events
pub record SayTheColumns (source : SourceValue) (history : PastEvents) : Type 0 where
  pub only_fields : AllByRecursion IsField (in_force source history)
  pub columns : (table : List ℕ) → last_field source (in_force source history) table ≡ last_field source history table

abbrev pub FieldsInForceSayTheColumns : Type 0
FieldsInForceSayTheColumns = (source : SourceValue) (history : PastEvents) → SayTheColumns source history

-- the history says the columns of a table
abbrev pub HasColumns : SourceValue → PastEvents → List ℕ → Type 0
HasColumns source history table = (columns : List FieldValue) × (last_field source history table ≡ Some columns)

-- the same of each change of its groups
abbrev pub HaveColumns : SourceValue → PastEvents → Type 0
HaveColumns source history = AllByRecursion (λ group. AllByRecursion (λ change. HasColumns source history change.table) group.changes) (groups_of source history)

abbrev pub ChangesHaveColumns : Type 0
ChangesHaveColumns = (source : SourceValue) (history : PastEvents) → first_fault source history ≡ None → HaveColumns source history

-- the bytes are whole messages with these events, one after another
pub record HaveEvents (bytes : List ℕ) (events : List EventValue) : Type 0 where
  pub whole : AreWhole bytes
  pub are : events_of_feed bytes ≡ record { items = events; fault = None }

-- events that are written as messages, each of fewer than 2^64 bytes, are read again
abbrev pub MessagesAreReadAgain : Type 0
MessagesAreReadAgain =
    (messages : List (List (List ℕ))) (events : List EventValue) → length (written_messages messages) < 2 ^ 64
    → map event_at (flat_map (λ parts. parts) messages) ≡ map Ok events → HaveEvents (written_messages messages) events

-- behind whole messages come the events of the other bytes
abbrev pub BytesGoBehindBytes : Type 0
BytesGoBehindBytes =
    (whole rest : List ℕ) (events : List EventValue) → HaveEvents whole events
    → events_of_feed (whole ++ rest) ≡ record { items = events ++ (events_of_feed rest).items; fault = (events_of_feed rest).fault }

-- behind whole messages come whole messages
abbrev pub WholeGoesBehindWhole : Type 0
WholeGoesBehindWhole = (whole rest : List ℕ) (events others : List EventValue) → HaveEvents whole events → HaveEvents rest others → HaveEvents (whole ++ rest) (events ++ others)

-- the bytes are whole messages with the events that are left of all, where some are taken from the front
pub record IsRest (rest : List ℕ) (events all : List EventValue) : Type 0 where
  pub others : List EventValue
  pub have : HaveEvents rest others
  pub are : all ≡ events ++ others

-- what is left of whole messages behind whole ones are whole ones
abbrev pub RestsOfWholeAreWhole : Type 0
RestsOfWholeAreWhole = (whole rest : List ℕ) (events all : List EventValue) → HaveEvents whole events → HaveEvents (whole ++ rest) all → IsRest rest events all

-- bytes that open as a feed are whole messages
abbrev pub OpenedFeedsAreWhole : Type 0
OpenedFeedsAreWhole = (bytes : List ℕ) (source : SourceValue) (all : List GroupValue) → groups bytes source ≡ Ok all → HaveEvents bytes (events_of_feed bytes).items

-- the bytes are whole messages, and behind their events, whose last group is this one, a feed can be cut
pub record IsWholeCut (bytes : List ℕ) (source : SourceValue) (before : List GroupValue) (last : GroupValue) : Type 0 where
  pub events : HaveEvents bytes (events_of_feed bytes).items
  pub cut : IsCut source (reverse (events_of_feed bytes).items) (record { position = last.position; changes = last.changes })
  pub many : groups_in_front source (events_of_feed bytes).items ≡ length before + 1

abbrev pub WholeFeedsAreCuts : Type 0
WholeFeedsAreCuts = (bytes : List ℕ) (source : SourceValue) (before : List GroupValue) (last : GroupValue) → groups bytes source ≡ Ok (before ++ last ∷ []) → IsWholeCut bytes source before last
