-- Laws of what a feed tells of logs, as statements: each is the contract of a function without a body.
use Rattle.std.specs.Prelude.{◌≡◌, ℕ, ◌+◌, ◌^◌, ◌<◌, false, true, List, [], ◌++◌, length, reverse, None, Ok}
use Rattle.std.specs.List.{AllByRecursion, flat_map}
use Rattle.gtid_set.specs.declared.interval.Interval.{Interval}
use Rattle.gtid_set.specs.Position.{IsCanonical}
use Rattle.vevent.specs.EventValue.{EventValue}
use Rattle.vevent.specs.WrittenEvent.{IsSoundEvent}
use Rattle.source_feed.specs.PastEvents.{PastEvents, is_open}
use Rattle.source_feed.specs.GroupValue.{GroupValue}
use Rattle.source_feed.specs.SourceValue.{SourceValue}
use Rattle.source_feed.specs.Groups.{groups_of, first_fault, groups}
use Rattle.event_laws.specs.Laws.{HaveEvents}
use Rattle.log_groups.specs.Group.{WaitingValue}
use Rattle.log_course.specs.Course.{PlacedValue, CourseRead, course_at}
use Rattle.log_laws.specs.Source.{SourceTables, IsSource, source_of}
use Rattle.log_laws.specs.Transcript.{Far, groups_told, last_told, written}
use Rattle.log_laws.specs.Read.{groups_read, last_read, reached_by, said_by}
use Rattle.log_laws.specs.Far.{TellsSoFar, AreRising}

-- the events of messages
abbrev pub events_in : List (List EventValue) → List EventValue
events_in messages = flat_map (λ events. events) messages

-- behind events that tell so far
abbrev pub behind : PastEvents → List (List EventValue) → PastEvents
behind past messages = reverse (events_in messages) ++ past

-- how many groups events have
abbrev pub next_number : SourceTables → PastEvents → ℕ
next_number s past = length (groups_of (source_of s) past) + 1

-- Behind events that tell so far come those of messages: they have just these groups more, tell so far then, and can be written.
pub record TellGroups (s : SourceTables) (past : PastEvents) (more : List GroupValue) (messages : List (List EventValue)) (far : Far) : Type 0 where
  pub groups : groups_of (source_of s) (behind past messages) ≡ groups_of (source_of s) past ++ more
  pub tells : TellsSoFar s (behind past messages) far
  pub sound : AllByRecursion IsSoundEvent (events_in messages)

abbrev pub TransactionsAreTold : Type 0
TransactionsAreTold =
    (s : SourceTables) (past : PastEvents) (transactions : List PlacedValue) (old new : Far) (messages : List (List EventValue)) → IsSource s → TellsSoFar s past old → AreRising old.reached transactions
    → groups_told s transactions old ≡ Ok (messages, new) → TellGroups s past (groups_read s (next_number s past) transactions) messages new

-- how far these transactions tell
pub record ReachesSoFar (s : SourceTables) (transactions : List PlacedValue) (old new : Far) : Type 0 where
  pub reached : new.reached ≡ reached_by old.reached transactions
  pub said : new.said ≡ said_by s old.said transactions

abbrev pub TransactionsReach : Type 0
TransactionsReach =
    (s : SourceTables) (past : PastEvents) (transactions : List PlacedValue) (old new : Far) (messages : List (List EventValue)) → IsSource s → TellsSoFar s past old → AreRising old.reached transactions
    → groups_told s transactions old ≡ Ok (messages, new) → ReachesSoFar s transactions old new

-- the position that was reached is told
abbrev pub EndsAreTold : Type 0
EndsAreTold =
    (s : SourceTables) (past : PastEvents) (far : Far) (messages : List (List EventValue)) → IsSource s → TellsSoFar s past far
    → last_told s far ≡ Ok messages → TellGroups s past (last_read far.said far.reached (next_number s past)) messages (record far { said = true })

-- the positions of a file's transactions rise from the one before it
abbrev pub CoursesRise : Type 0
CoursesRise = (reached : List Interval) (waiting : List WaitingValue) (bytes : List ℕ) (r : CourseRead) → IsCanonical reached → course_at reached waiting bytes ≡ Ok r → AreRising reached r.groups.items

-- messages that are written are read again
abbrev pub MessagesAreRead : Type 0
MessagesAreRead =
    (messages : List (List EventValue)) → AllByRecursion IsSoundEvent (events_in messages) → length (written messages) < 2 ^ 64 → HaveEvents (written messages) (events_in messages)

-- bytes with events that have no fault, and end outside of transactions, are a feed with the groups of these
abbrev pub FeedsHaveTheirGroups : Type 0
FeedsHaveTheirGroups =
    (bytes : List ℕ) (source : SourceValue) (events : List EventValue) → length bytes < 2 ^ 31 → HaveEvents bytes events → first_fault source (reverse events) ≡ None → is_open (reverse events) ≡ false
    → groups bytes source ≡ Ok (groups_of source (reverse events))
