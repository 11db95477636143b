-- The feed of logs, one file behind another (this profile): what is told of their transactions, or the first fault.
use Rattle.std.specs.Prelude.{ℕ, ◌+◌, ◌-◌, ◌^◌, nat_lt, true, List, [], ◌∷◌, ◌++◌, length, map, replicate, Option, None, Some, Result, Ok, Err, if◌then◌else◌}
use Rattle.list_laws.specs.Outcome.{◌>>=◌}
use Rattle.item_readers.specs.Reading.{Reading}
use Rattle.vevent.specs.EventValue.{EventValue}
use Rattle.log_groups.specs.declared.fault.GroupFault.TheVariants.{StillPrepared}
use Rattle.log_groups.specs.Group.{WaitingValue, still_waits}
use Rattle.log_course.specs.declared.fault.CourseFault.{CourseFault}
use Rattle.log_course.specs.declared.fault.CourseFault.TheVariants.{Group}
use Rattle.log_course.specs.Course.{PlacedValue, course_at}
use Rattle.log_feed.specs.declared.table.Stage.TheVariants.{Absent}
use Rattle.log_feed.specs.Table.{table_value}
use Rattle.log_laws.specs.Source.{SourceTables}
use Rattle.log_laws.specs.Transcript.{Far, Messages, groups_told, last_told, written}
use Rattle.log_transcribe.specs.declared.fault.LogsFault.{LogsFault}
use Rattle.log_transcribe.specs.declared.fault.LogsFault.TheVariants.{Course, TooLong}
use Rattle.log_transcribe.specs.declared.transcript.FeedSource as feed_source
use Rattle.log_transcribe.specs.Fault.{of_course, of_tell}

-- how a source of the program is seen
abbrev pub source_value : feed_source.FeedSource → SourceTables
source_value s = record { keyspace = s.keyspace.now; shard = s.shard.now; schema = s.schema.now; tables = map table_value s.tables.now }

-- what is told up to the end of the file at a place, or up to this fault
abbrev pub up_to : ℕ → Option CourseFault → Messages → Result Messages LogsFault
up_to file None x = Ok x
up_to file (Some fault) x = Err (Course file fault)

-- what is told of its transactions
abbrev pub course_told : ℕ → SourceTables → Reading PlacedValue CourseFault → Far → Result Messages LogsFault
course_told file s r far = of_tell file (groups_told s r.items far) >>= λ x. up_to file r.fault x

-- what is told of the file, where these XA transactions wait before it, and what waits behind it
abbrev pub log_told : ℕ → SourceTables → List WaitingValue → List ℕ → Far → Result (Messages × List WaitingValue) LogsFault
log_told file s waiting bytes far = of_course file (course_at far.reached waiting bytes) >>= λ r. course_told file s r.groups far >>= λ x. Ok (x, r.waiting)

-- behind the last file, which is the one before this place, nothing may wait that changes anything
abbrev pub none_waits : ℕ → List WaitingValue → Result (Unit {0}) LogsFault
none_waits file waiting = if still_waits waiting then Err (Course (file - 1) (Group StillPrepared)) else Ok tt

-- and of others behind it
unfoldable pub logs_told : ℕ → SourceTables → List WaitingValue → List (List ℕ) → Far → Result Messages LogsFault
logs_told file s waiting [] far = none_waits file waiting >>= λ _. Ok ([], far)
logs_told file s waiting (bytes ∷ logs) far = log_told file s waiting bytes far >>= λ x. logs_told (file + 1) s x.1 logs x.0.1 >>= λ y. Ok (x.0.0 ++ y.0, y.1)

-- at the beginning no position is reached, and no table is made
abbrev pub nothing_told : SourceTables → Far
nothing_told s = record { reached = []; stages = replicate (length s.tables) Absent; said = true }

-- the messages of the feed, each as its events; behind the last file the position that was reached
abbrev pub feed_told : SourceTables → List (List ℕ) → Result (List (List EventValue)) LogsFault
feed_told s logs = logs_told 0 s [] logs (nothing_told s) >>= λ x. of_tell (length logs) (last_told s x.1) >>= λ last. Ok (x.0 ++ last)

-- bytes that are within what a feed has
abbrev pub short_feed : ℕ → List ℕ → Result (List ℕ) LogsFault
short_feed file bytes = if nat_lt (length bytes) (2 ^ 31) then Ok bytes else Err (TooLong file)

-- the feed's bytes
unfoldable pub feed_of_logs : SourceTables → List (List ℕ) → Result (List ℕ) LogsFault
feed_of_logs s logs = feed_told s logs >>= λ messages. short_feed (length logs) (written messages)
