-- What logs tell behind a feed, one file behind another (this profile): the transactions that the feed has are passed over, the
-- others are told; or the first fault.
use Rattle.std.specs.Prelude.{ℕ, ◌+◌, ◌^◌, nat_lt, true, List, [], ◌∷◌, ◌++◌, length, Option, None, Some, Result, Ok, Err, if◌then◌else◌}
use Rattle.list_laws.specs.Outcome.{◌>>=◌}
use Rattle.gtid_set.specs.declared.interval.Interval.{Interval}
use Rattle.gtid_set.specs.Position.{within_of, union_of}
use Rattle.vevent.specs.EventValue.{EventValue}
use Rattle.log_events.specs.declared.fault.EventFault.{EventFault}
use Rattle.log_events.specs.Event.{LogEvent}
use Rattle.log_events.specs.Log.{log_at}
use Rattle.log_groups.specs.declared.fault.GroupFault.TheVariants.{Event}
use Rattle.log_places.specs.declared.fault.PlaceFault.TheVariants.{NoList, Elsewhere, GoesBack}
use Rattle.log_places.specs.List.{list_of}
use Rattle.log_course.specs.declared.fault.CourseFault.{CourseFault}
use Rattle.log_course.specs.declared.fault.CourseFault.TheVariants.{Group, Place}
use Rattle.log_course.specs.Fault.{of_log, of_place}
use Rattle.log_course.specs.Course.{PlacedValue, course_at}
use Rattle.log_feed.specs.declared.fault.Trouble.TheVariants.{NotMade}
use Rattle.log_feed.specs.declared.fault.ChangeFault.{ChangeFault}
use Rattle.log_feed.specs.declared.table.Stage.{Stage}
use Rattle.log_feed.specs.declared.table.Stage.TheVariants.{Absent, Made, Filled}
use Rattle.log_feed.specs.Table.{TableValue, stage_at}
use Rattle.log_groups.specs.Transaction.{DoneValue, RowsOf, Altered}
use Rattle.log_groups.specs.Group.{WaitingValue}
use Rattle.log_laws.specs.declared.fault.TellFault.{TellFault}
use Rattle.log_laws.specs.Read.{table_there}
use Rattle.log_laws.specs.Source.{SourceTables}
use Rattle.log_laws.specs.Transcript.{Far, Messages, of_changes, group_told, last_told, written}
use Rattle.log_transcribe.specs.declared.fault.LogsFault.{LogsFault}
use Rattle.log_transcribe.specs.declared.fault.LogsFault.TheVariants.{Course, TooLong}
use Rattle.log_transcribe.specs.declared.fault.BehindFault.{BehindFault}
use Rattle.log_transcribe.specs.Fault.{of_course, of_tell, of_feed, of_logs}
use Rattle.log_transcribe.specs.Said.{feed_end, feed_said}
use Rattle.log_transcribe.specs.Transcript.{none_waits}
use Rattle.log_transcribe.specs.Apart.{overlaps}

-- how far the feed tells, and the position that the logs reached
pub record Along : Type 0 where
  pub far : Far
  pub logs : List Interval

-- further messages, each as its events, and how far they go
abbrev pub Going : Type 0
Going = List (List EventValue) × Along

-- ---- a transaction

-- behind it the logs reached its position
abbrev pub going_to : List Interval → Messages → Going
going_to position x = (x.0, record { far = x.1; logs = position })

-- rows of a table are told by the feed where it has the table's columns
abbrev pub had_by : Stage → ℕ → Result (Unit {0}) ChangeFault
had_by Absent t = Err (record { trouble = NotMade; table = t })
had_by Made t = Err (record { trouble = NotMade; table = t })
had_by Filled t = Ok tt

abbrev pub had_there : List Stage → Option (ℕ × TableValue) → Result (Unit {0}) ChangeFault
had_there had None = Ok tt
had_there had (Some x) = had_by (stage_at had x.0) x.0

-- a change that the feed tells; statements are passed over
abbrev pub change_had : SourceTables → List Stage → DoneValue → Result (Unit {0}) ChangeFault
change_had s had (RowsOf kind m head) = had_there had (table_there s m)
change_had s had (Altered q) = Ok tt

unfoldable pub changes_had : SourceTables → List Stage → List DoneValue → Result (Unit {0}) ChangeFault
changes_had s had [] = Ok tt
changes_had s had (d ∷ changes) = change_had s had d >>= λ _. changes_had s had changes

-- one that the feed has: nothing is told
abbrev pub passed_far : SourceTables → List Stage → PlacedValue → Far → Result Messages TellFault
passed_far s had g far = of_changes (changes_had s had g.changes) >>= λ _. Ok ([], far)

-- one that the feed doesn't have, behind its position
abbrev pub moved : List Interval → PlacedValue → PlacedValue
moved had g = record { position = union_of had g.position; changes = g.changes }

-- where the position before it in the logs is `before`: a feed that has some of its numbers and not all isn't one of these logs
abbrev pub told_far : ℕ → SourceTables → List Interval → PlacedValue → Far → Result Messages LogsFault
told_far file s before g far =
    if overlaps far.reached before g.position then Err (Course file (Place GoesBack)) else of_tell file (group_told s (moved far.reached g) far)

-- either
abbrev pub taken_far : ℕ → SourceTables → List Stage → List Interval → PlacedValue → Far → Result Messages LogsFault
taken_far file s had before g far = if within_of g.position far.reached then of_tell file (passed_far s had g far) else told_far file s before g far

abbrev pub group_behind : ℕ → SourceTables → List Stage → PlacedValue → Along → Result Going LogsFault
group_behind file s had g a = taken_far file s had a.logs g a.far >>= λ x. Ok (going_to g.position x)

-- ---- the transactions of a file, and of files

-- behind all of them the end, or a fault
abbrev pub end_behind : ℕ → Option CourseFault → Along → Result Going LogsFault
end_behind file None a = Ok ([], a)
end_behind file (Some fault) a = Err (Course file fault)

unfoldable pub groups_behind : ℕ → SourceTables → List Stage → List PlacedValue → Option CourseFault → Along → Result Going LogsFault
groups_behind file s had [] end a = end_behind file end a
groups_behind file s had (g ∷ groups) end a = group_behind file s had g a >>= λ x. groups_behind file s had groups end x.1 >>= λ y. Ok (x.0 ++ y.0, y.1)

-- with what waits before the file and behind it
abbrev pub log_behind : ℕ → SourceTables → List Stage → List WaitingValue → List ℕ → Along → Result (Going × List WaitingValue) LogsFault
log_behind file s had waiting bytes a = of_course file (course_at a.logs waiting bytes) >>= λ r. groups_behind file s had r.groups.items r.groups.fault a >>= λ x. Ok (x, r.waiting)

unfoldable pub logs_behind : ℕ → SourceTables → List Stage → List WaitingValue → List (List ℕ) → Along → Result Going LogsFault
logs_behind file s had waiting [] a = none_waits file waiting >>= λ _. Ok ([], a)
logs_behind file s had waiting (bytes ∷ logs) a = log_behind file s had waiting bytes a >>= λ x. logs_behind (file + 1) s had x.1 logs x.0.1 >>= λ y. Ok (x.0.0 ++ y.0, y.1)

-- ---- the whole

-- the position with which a log begins
abbrev pub listed_first : List LogEvent → Option EventFault → Result (List Interval) CourseFault
listed_first [] None = Err (Place NoList)
listed_first [] (Some fault) = Err (Group (Event fault))
listed_first (event ∷ events) end = of_place (list_of event)

unfoldable pub first_list : List ℕ → Result (List Interval) CourseFault
first_list bytes = of_log (log_at bytes) >>= λ log. listed_first log.events.items log.events.fault

-- the first log has to begin with nothing that the feed doesn't have
abbrev pub begun_by : List Interval → List Interval → Result (List Interval) LogsFault
begun_by reached first = if within_of first reached then Ok first else Err (Course 0 (Place Elsewhere))

abbrev pub begun : List Interval → List (List ℕ) → Result (List Interval) LogsFault
begun reached [] = Ok reached
begun reached (bytes ∷ logs) = of_course 0 (first_list bytes) >>= λ first. begun_by reached first

-- A table that the feed doesn't have: where the logs begin with no position they have all its rows, so it has none where the
-- feed ends; else they have to make it.
abbrev pub unsaid : List Interval → Stage
unsaid [] = Made
unsaid (i ∷ first) = Absent

-- how far is told where the feed ends, and the logs begin
abbrev pub along_of : List Interval → List Interval → List Stage → Along
along_of reached first had = record { far = record { reached = reached; stages = had; said = true }; logs = first }

-- the further messages, with the position that was reached behind the last file
abbrev pub behind_told : SourceTables → List Stage → Along → List (List ℕ) → Result (List (List EventValue)) LogsFault
behind_told s had a logs = logs_behind 0 s had [] logs a >>= λ x. of_tell (length logs) (last_told s x.1.far) >>= λ last. Ok (x.0 ++ last)

-- bytes that are within what a feed has, behind so many
abbrev pub short_behind : ℕ → ℕ → List ℕ → Result (List ℕ) LogsFault
short_behind file size bytes = if nat_lt (size + length bytes) (2 ^ 31) then Ok bytes else Err (TooLong file)

abbrev pub bytes_behind : SourceTables → List ℕ → List Stage → Along → List (List ℕ) → Result (List ℕ) LogsFault
bytes_behind s feed had a logs = behind_told s had a logs >>= λ messages. short_behind (length logs) (length feed) (written messages)

-- the bytes to be appended
unfoldable pub behind_of_logs : SourceTables → List ℕ → List (List ℕ) → Result (List ℕ) BehindFault
behind_of_logs s feed logs =
    of_feed (feed_end s feed) >>= λ reached. of_logs (begun reached logs) >>= λ first. of_feed (feed_said s (unsaid first) feed) >>= λ had.
    of_logs (bytes_behind s feed had (along_of reached first had) logs)
