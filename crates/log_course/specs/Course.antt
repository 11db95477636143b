-- The groups of logs, one file behind another, each with the position behind it (this profile, after the MySQL manual,
-- "GTID Sets", and MariaDB's knowledge base, "GTID_LIST_EVENT").
use Rattle.std.specs.Prelude.{◌≡◌, ℕ, ◌&&◌, if◌then◌else◌, Bool, true, false, List, [], ◌∷◌, Option, None, Some, Result, Ok, Err}
use Rattle.list_laws.specs.Outcome.{◌>>=◌}
use Rattle.item_readers.specs.Reading.{Reading}
use Rattle.gtid_set.specs.declared.interval.Interval.{Interval}
use Rattle.log_events.specs.declared.fault.EventFault.{EventFault}
use Rattle.log_events.specs.declared.fault.EventFault.TheVariants.{Cut}
use Rattle.log_events.specs.Event.{LogEvent}
use Rattle.log_events.specs.Log.{LogValue, IsLog, log_at}
use Rattle.log_groups.specs.declared.fault.GroupFault.{GroupFault}
use Rattle.log_groups.specs.declared.fault.GroupFault.TheVariants.{Event, Unended}
use Rattle.log_groups.specs.Step.{steps_of}
use Rattle.log_groups.specs.Transaction.{DoneValue, TransactionValue, AreTransactions, transactions_of}
use Rattle.log_groups.specs.Group.{GroupValue, WaitingValue, GroupsRead, groups_behind}
use Rattle.log_places.specs.declared.fault.PlaceFault.{PlaceFault}
use Rattle.log_places.specs.declared.fault.PlaceFault.TheVariants.{NoList}
use Rattle.log_places.specs.Place.{position_behind, goes_on}
use Rattle.log_course.specs.declared.fault.CourseFault.{CourseFault}
use Rattle.log_course.specs.declared.fault.CourseFault.TheVariants.{Group, Place}
use Rattle.log_course.specs.Fault.{of_log, of_place}

-- what is committed, and the position behind it
pub record PlacedValue : Type 0 where
  pub position : List Interval
  pub changes : List DoneValue

-- ---- the groups of one log

-- a group by what is told of the position behind it, and then the others; or the fault of the position
abbrev pub put_placed : Result (List Interval) PlaceFault → List DoneValue → (List Interval → Reading PlacedValue CourseFault) → Reading PlacedValue CourseFault
put_placed (Ok position) changes others = let rest = others position in record { items = record { position = position; changes = changes } ∷ rest.items; fault = rest.fault }
put_placed (Err fault) changes others = record { items = []; fault = Some (Place fault) }

-- groups behind a position that was reached, each with the position behind it, up to this end
unfoldable pub placed : List Interval → List GroupValue → Option CourseFault → Reading PlacedValue CourseFault
placed reached [] end = record { items = []; fault = end }
placed reached (g ∷ groups) end = put_placed (position_behind reached g.gtid) g.changes (λ position. placed position groups end)

-- the log ends inside of a transaction, or of an event
abbrev pub is_inside : GroupFault → Bool
is_inside Unended = true
is_inside (Event Cut) = true
is_inside fault = false

-- how a log ends; one that its server still writes may end inside of a transaction, which is then left out
abbrev pub end_of : Bool → Option GroupFault → Option CourseFault
end_of in_use None = None
end_of in_use (Some fault) = if in_use && is_inside fault then None else Some (Group fault)

abbrev pub placed_behind : List Interval → Bool → Reading GroupValue GroupFault → Reading PlacedValue CourseFault
placed_behind reached in_use r = placed reached r.items (end_of in_use r.fault)

-- a log's groups, each with the position behind it, and the XA transactions that wait where they end
pub record CourseRead : Type 0 where
  pub groups : Reading PlacedValue CourseFault
  pub waiting : List WaitingValue

abbrev pub course_behind : List Interval → Bool → GroupsRead → CourseRead
course_behind reached in_use g = record { groups = placed_behind reached in_use g.reading; waiting = g.waiting }

-- those of a log behind a position that was reached, where these wait before it
abbrev pub course_of : List Interval → List WaitingValue → LogValue → CourseRead
course_of reached waiting log = course_behind reached log.in_use (groups_behind waiting (transactions_of (steps_of log.events)))

-- ---- where a log begins

-- it goes on where this position was reached: its first event says so
abbrev pub begins : List Interval → List LogEvent → Option EventFault → Result (Unit {0}) CourseFault
begins reached [] None = Err (Place NoList)
begins reached [] (Some fault) = Err (Group (Event fault))
begins reached (event ∷ events) end = of_place (goes_on reached event)

-- ---- as a relation

-- The bytes are a log that goes on where this position was reached. Its steps are these transactions one after another,
-- and what these commit are the groups, with what waits before the log and not behind it.
pub record IsCourse (reached : List Interval) (waiting : List WaitingValue) (bytes : List ℕ) (r : CourseRead) : Type 0 where
  pub log : LogValue
  pub is : IsLog bytes log
  pub goes_on : begins reached log.events.items log.events.fault ≡ Ok tt
  pub transactions : Reading TransactionValue GroupFault
  pub are : AreTransactions (steps_of log.events) transactions
  pub course : r ≡ course_behind reached log.in_use (groups_behind waiting transactions)

-- ---- as a function

-- the groups of a file behind a position that was reached, where these wait before it, or why it has none
unfoldable pub course_at : List Interval → List WaitingValue → List ℕ → Result CourseRead CourseFault
course_at reached waiting bytes = of_log (log_at bytes) >>= λ log. begins reached log.events.items log.events.fault >>= λ _. Ok (course_of reached waiting log)

-- the groups that are read are those of the file's transactions, and no others
pub record CoursesAreRead : Type 0 where
  pub spelled : (reached : List Interval) (waiting : List WaitingValue) (bytes : List ℕ) (r : CourseRead) → course_at reached waiting bytes ≡ Ok r → IsCourse reached waiting bytes r
  pub only : (reached : List Interval) (waiting : List WaitingValue) (bytes : List ℕ) (r : CourseRead) → IsCourse reached waiting bytes r → course_at reached waiting bytes ≡ Ok r
