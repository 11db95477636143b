-- Messages as they are put behind bytes that are written.
use Rattle.std.specs.Prelude.{◌≡◌, ◌<◌, ℕ, Bool, true, false, List, [], ◌∷◌, ◌++◌, length, Option, None, Some, Result, Ok, Err}
use Rattle.list_laws.specs.Outcome.{◌>>=◌, Refuses}
use Rattle.item_readers.specs.Reading.{Reading}
use Rattle.gtid_set.specs.declared.interval.Interval.{Interval}
use Rattle.vevent.specs.EventValue.{EventValue, Begin, Commit}
use Rattle.vevent.specs.WrittenEvent.{written_event}
use Rattle.event_laws.specs.WrittenMessages.{written_response, framed}
use Rattle.log_groups.specs.Group.{WaitingValue}
use Rattle.log_course.specs.declared.fault.CourseFault.{CourseFault}
use Rattle.log_course.specs.declared.fault.CourseError as course_errors
use Rattle.log_course.specs.declared.fault.CourseError.TheVariants as course_error
use Rattle.log_course.specs.Course.{PlacedValue}
use Rattle.log_course.specs.Calls.{CourseValue}
use Rattle.log_feed.specs.declared.fault.ChangeError as change_errors
use Rattle.log_feed.specs.declared.fault.ChangeError.TheVariants as change_error
use Rattle.log_laws.specs.declared.fault.TellFault.{TellFault}
use Rattle.log_laws.specs.declared.fault.TellFault.TheVariants.{Change}
use Rattle.log_laws.specs.Source.{SourceTables}
use Rattle.log_laws.specs.Transcript.{Far, place_told, written}
use Rattle.log_transcribe.specs.declared.fault.LogsFault.TheVariants.{Course, Tell}
use Rattle.log_transcribe.specs.declared.fault.LogsError.{LogsError}
use Rattle.log_transcribe.specs.declared.fault.LogsError.TheVariants.{Memory, Fault}
use Rattle.log_transcribe.specs.declared.fault.TellError.{TellError}
use Rattle.log_transcribe.specs.declared.fault.TellError.TheVariants as tell_error
use Rattle.log_transcribe.specs.Fault.{meant}
use Rattle.log_transcribe.specs.Transcript.{course_told}

-- a transcript of the program: whose it is, and how far it tells
pub record TranscriptValue : Type 0 where
  pub source : SourceTables
  pub far : Far

-- which fault of the definition an error is
abbrev pub tell_meant : TellError → Option TellFault
tell_meant tell_error.Memory = None
tell_meant (tell_error.Is fault) = Some fault

-- what is wrong with the file at a place
abbrev pub course_error_at : ℕ → course_errors.CourseError → LogsError
course_error_at file course_error.Memory = Memory
course_error_at file (course_error.Fault fault) = Fault (Course file fault)

abbrev pub change_error_at : ℕ → change_errors.ChangeError → LogsError
change_error_at file change_error.Memory = Memory
change_error_at file (change_error.Fault fault) = Fault (Tell file (Change fault))

abbrev pub tell_error_at : ℕ → TellError → LogsError
tell_error_at file tell_error.Memory = Memory
tell_error_at file (tell_error.Is fault) = Fault (Tell file fault)

-- an event as its bytes
abbrev pub event_bytes : {F : Type 0} → Result EventValue F → Result (List ℕ) F
event_bytes (Ok event) = Ok (written_event event)
event_bytes (Err fault) = Err fault

-- the message of a transaction's events, a BEGIN before them and a position and a COMMIT behind them, each as its bytes
abbrev pub transaction_bytes : List (List ℕ) → List ℕ → List ℕ
transaction_bytes events place = framed (written_response (written_event Begin ∷ (events ++ (place ∷ written_event Commit ∷ []))))

-- that message behind other bytes, where there are events, and whether there are
abbrev pub events_put : List ℕ → List ℕ → List Interval → List (List ℕ) → List ℕ → Result (List ℕ × Bool) TellFault
events_put keyspace shard position [] out = Ok (out, false)
events_put keyspace shard position (e ∷ events) out = event_bytes (place_told keyspace shard position) >>= λ place. Ok (out ++ transaction_bytes (e ∷ events) place, true)

-- the message of a position alone behind other bytes, where it isn't said
abbrev pub last_put : List ℕ → List ℕ → List Interval → Bool → List ℕ → Result (List ℕ) TellFault
last_put keyspace shard position true out = Ok out
last_put keyspace shard position false out = event_bytes (place_told keyspace shard position) >>= λ place. Ok (out ++ framed (written_response (place ∷ [])))

-- messages behind other bytes, and how far they go
abbrev pub with_messages : {A F : Type 0} → Result (List (List EventValue) × A) F → List ℕ → Result (List ℕ × A) F
with_messages (Ok x) out = Ok (out ++ written x.0, x.1)
with_messages (Err fault) out = Err fault

-- with what waits behind them
abbrev pub with_waiting : {F S : Type 0} → Result ((List (List EventValue) × S) × List WaitingValue) F → List ℕ → Result ((List ℕ × S) × List WaitingValue) F
with_waiting (Ok x) out = Ok ((out ++ written x.0.0, x.0.1), x.1)
with_waiting (Err fault) out = Err fault

-- the same of the last ones
abbrev pub last_with : {F : Type 0} → Result (List (List EventValue)) F → List ℕ → Result (List ℕ) F
last_with (Ok messages) out = Ok (out ++ written messages)
last_with (Err fault) out = Err fault

-- messages as their bytes
abbrev pub bytes_told : {F : Type 0} → Result (List (List EventValue)) F → Result (List ℕ) F
bytes_told (Ok messages) = Ok (written messages)
bytes_told (Err fault) = Err fault

-- what a call that puts the next transaction of the file at a place answers and leaves, and whether there was one
abbrev pub PutsNext : ℕ → SourceTables → Reading PlacedValue CourseFault → Result Bool LogsError → Reading PlacedValue CourseFault → Far → Far → List ℕ → List ℕ → Type 0
PutsNext file s old (Ok true) new far next_far out next =
    (with_messages (course_told file s old far) out ≡ with_messages (course_told file s new next_far) next) × (length new.items < length old.items)
PutsNext file s old (Ok false) new far next_far out next = with_messages (course_told file s old far) out ≡ Ok (next, next_far)
PutsNext file s old (Err error) new far next_far out next = Refuses meant error (with_messages (course_told file s old far) out)

-- and of what waits behind the file: it stays the same, and where there was none no group is to come
abbrev pub KeepsWaiting : {E : Type 0} → CourseValue → Result Bool E → CourseValue → Type 0
KeepsWaiting old (Ok true) new = new.waiting ≡ old.waiting
KeepsWaiting old (Ok false) new = (new.waiting ≡ old.waiting) × (new.groups.items ≡ []) × (new.groups.fault ≡ None)
KeepsWaiting old (Err error) new = Unit {0}
