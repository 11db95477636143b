-- What is known behind some events of a feed, event by event, while its cut is looked for.
use Rattle.std.specs.Prelude.{ℕ, ◌-◌, ◌==◌, List, [], ◌∷◌, Bool, true, false, Option, None, Some, Result, Ok, Err, if◌then◌else◌}
use Rattle.std.specs.Option.{option_map}
use Rattle.gtid_set.specs.Position.{within_of}
use Rattle.vevent.specs.Event.{event_at}
use Rattle.vevent.specs.EventValue.{EventValue, Gtid, Begin, Commit, Rollback, Row, Field, Vgtid, Ignored}
use Rattle.vevent.specs.declared.fault.EventFault.{EventFault}
use Rattle.source_feed.specs.GroupValue.{Position}
use Rattle.source_feed.specs.PastEvents.{past_set_of_text}
use Rattle.source_feed.specs.SourceValue.{SourceValue, own_gtid}
use Rattle.feed_bytes.specs.FieldBytes.{FieldBytesValue}
use Rattle.feed_bytes.specs.Private.FieldsBehind.{behind_named}

-- an event that carries a position
pub record PlaceValue : Type 0 where
  pub event : List ℕ
  pub position : Position

-- a transaction is open, with its last position so far; the last group's position and an event that carries it; how many groups
-- are left up to the cut; the FIELDs in force
pub record CourseValue : Type 0 where
  pub inside : Bool
  pub place : Option PlaceValue
  pub last : List ℕ
  pub reached : Position
  pub left : ℕ
  pub fields : List FieldBytesValue

abbrev pub place_of : List ℕ → Option Position → Option PlaceValue
place_of bytes position = option_map (λ p. record { event = bytes; position = p }) position

-- no transaction is open
abbrev pub shut : CourseValue → CourseValue
shut course = record course { inside = false; place = None }

-- a block ends at a place: it is a group, unless it is a repeat
abbrev pub ended : CourseValue → PlaceValue → CourseValue
ended course place = if within_of place.position course.reached then course else record course { last = place.event; reached = place.position; left = course.left - 1 }

-- the same where it has one
abbrev pub ended_at : CourseValue → Option PlaceValue → CourseValue
ended_at course None = course
ended_at course (Some place) = ended course place

-- a position passes: inside of a transaction it counts if no other follows, outside of one a block ends
abbrev pub passed : CourseValue → Option PlaceValue → CourseValue
passed course None = course
passed course (Some place) = if course.inside then record course { place = Some place } else ended course place

-- one event more, of these bytes
abbrev pub stepped : SourceValue → CourseValue → List ℕ → EventValue → CourseValue
stepped source course bytes Begin = record course { inside = true; place = None }
stepped source course bytes Commit = if course.inside then ended_at (shut course) course.place else course
stepped source course bytes Rollback = shut course
stepped source course bytes (Field name columns) = record course { fields = behind_named source course.fields bytes (Some name) }
stepped source course bytes (Gtid text) = passed course (place_of bytes (past_set_of_text (Some text)))
stepped source course bytes (Vgtid entries) = passed course (place_of bytes (past_set_of_text (own_gtid source entries)))
stepped source course bytes (Row name changes) = course
stepped source course bytes (Ignored kind) = course

-- the same, where the bytes are one
abbrev pub step_at : SourceValue → CourseValue → List ℕ → Result EventValue EventFault → CourseValue
step_at source course bytes (Ok event) = stepped source course bytes event
step_at source course bytes (Err fault) = course

-- what is known behind a message's events, or behind those up to the cut, and which are left
pub record Walk : Type 0 where
  pub course : CourseValue
  pub rest : List (List ℕ)

abbrev pub walked : SourceValue → CourseValue → List (List ℕ) → Walk
walked source course [] = record { course = course; rest = [] }
walked source course (bytes ∷ later) =
    if (step_at source course bytes (event_at bytes)).left == 0
    then record { course = step_at source course bytes (event_at bytes); rest = later }
    else walked source (step_at source course bytes (event_at bytes)) later
