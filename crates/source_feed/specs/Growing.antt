-- A feed that grows by a further piece: how much of the piece is taken, and why none of it is (this profile). Nothing here
-- says how the bytes were cut into pieces: only what they are together.
use Rattle.std.specs.Prelude.{◌≡◌, ◌⊎◌, ℕ, ◌^◌, List, [], ◌∷◌, ◌++◌, true, false, Option, None, Some, Ok, Err, length, reverse, nat_lt, if◌then◌else◌}
use Rattle.std.specs.List.{list_any}
use Rattle.std.specs.Option.{option_or}
use Rattle.proto_wire.specs.Reading.{Reading}
use Rattle.proto_wire.specs.Frame.{frames_of}
use Rattle.vevent.specs.EventValue.{EventValue}
use Rattle.vevent.specs.Response.{response_of}
use Rattle.filter_rule.specs.PlanValue.{PlanValue}
use Rattle.source_feed.specs.declared.fault.FeedFault.{FeedFault}
use Rattle.source_feed.specs.declared.fault.FeedFault.TheVariants.{FeedTooLong, FieldsDiffer}
use Rattle.source_feed.specs.declared.feed_end.FeedEnd.{FeedEnd}
use Rattle.source_feed.specs.SourceValue.{SourceValue}
use Rattle.source_feed.specs.EventList.{events_in_messages, events_of_feed}
use Rattle.source_feed.specs.PastEvents.{PastEvents, is_open}
use Rattle.source_feed.specs.Groups.{first_fault}
use Rattle.source_feed.specs.Pieces.{AreWhole, broken_by}
use Rattle.source_feed.specs.Planned.{FeedValue, source_of, differs, groups_under}
use Rattle.source_feed.specs.Private.KnownBehind.{KnownBehind}

-- ---- what is taken

-- the bytes are whole messages that can be read, and behind them no transaction is open
pub record AreSettled (bytes : List ℕ) : Type 0 where
  pub whole : AreWhole bytes
  pub read : (events_of_feed bytes).fault ≡ None
  pub outside : is_open (reverse (events_of_feed bytes).items) ≡ false

-- the past behind one message more
abbrev pub past_with : PastEvents → List ℕ → PastEvents
past_with earlier message = reverse (response_of message).items ++ earlier

-- behind each of these messages a transaction is open
abbrev pub StaysOpen : PastEvents → List (List ℕ) → Type 0
StaysOpen earlier [] = Unit {0}
StaysOpen earlier (message ∷ messages) = (is_open (past_with earlier message) ≡ true) × StaysOpen (past_with earlier message) messages

-- the bytes up to the last message behind which no transaction is open, and the rest: a transaction is open behind each of
-- its messages, and the last one may be cut short
pub record IsSettledFront (bytes front rest : List ℕ) : Type 0 where
  pub parts : bytes ≡ front ++ rest
  pub settled : AreSettled front
  pub unsettled : StaysOpen [] (frames_of rest).items

-- ---- why a piece is refused

abbrev pub ended_by : Option FeedFault → Reading EventValue FeedFault → Reading EventValue FeedFault
ended_by end events = record { items = events.items; fault = option_or events.fault end }

-- the events that have come: a message that is cut short at the end may still come, but none behind a length that is no varint
abbrev pub events_so_far : List ℕ → Reading EventValue FeedFault
events_so_far bytes = ended_by (broken_by (frames_of bytes).fault) (events_in_messages (frames_of bytes).items None)

-- the first fault of what has come, from the left; a transaction that is open at the end is none
abbrev pub fault_in : SourceValue → Reading EventValue FeedFault → Option FeedFault
fault_in source events = option_or (first_fault source (reverse events.items)) events.fault

-- an event is a FIELD of a planned table whose columns aren't the plan's
abbrev pub differing : PlanValue → List EventValue → Option FeedFault
differing plan events = if list_any (differs plan) events then Some FieldsDiffer else None

-- the fault of what has come: more than 2^31 - 1 bytes before all, else the first from the left, else a FIELD that differs
abbrev pub fault_so_far : PlanValue → List ℕ → Option FeedFault
fault_so_far plan bytes =
    if nat_lt (length bytes) (2 ^ 31) then option_or (fault_in (source_of plan) (events_so_far bytes)) (differing plan (events_so_far bytes).items) else Some FeedTooLong

-- no event that has come is at fault, and a FIELD differs: whatever may follow, the feed has no groups under the plan
pub record DiffersSoFar (plan : PlanValue) (bytes : List ℕ) : Type 0 where
  pub faultless : fault_in (source_of plan) (events_so_far bytes) ≡ None
  pub differs : list_any (differs plan) (events_so_far bytes).items ≡ true

-- the bytes are refused as a whole feed is, or by a FIELD that differs where they are cut short
abbrev pub IsRefusedFor : PlanValue → List ℕ → FeedFault → Type 0
IsRefusedFor plan bytes fault = (groups_under bytes plan ≡ Err fault) ⊎ ((fault ≡ FieldsDiffer) × DiffersSoFar plan bytes)

-- ---- a feed and its end

-- the feed's groups are those of the bytes, and the end keeps what these say to what follows
pub record IsEndOf (bytes : List ℕ) (feed : FeedValue) (end : FeedEnd) : Type 0 where
  pub groups : groups_under bytes feed.plan ≡ Ok feed.groups
  pub known : KnownBehind bytes feed end

-- there are such bytes
abbrev pub AreOfOneFeed : FeedValue → FeedEnd → Type 0
AreOfOneFeed feed end = (bytes : List ℕ) × IsEndOf bytes feed end
