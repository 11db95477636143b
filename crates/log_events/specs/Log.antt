-- The file of a binary log (MySQL internals manual, "Binary Log File Header"): four bytes that name it, a
-- format description, and the other events.
use Rattle.std.specs.Prelude.{◌≡◌, ◌≢◌, ℕ, ◌-◌, ◌%◌, ◌≤◌, ◌==◌, ◌&&◌, Bool, true, false, if◌then◌else◌, nat_le, List, [], ◌∷◌, ◌++◌, length, drop, Result, Ok, Err}
use Rattle.log_events.specs.declared.fault.EventFault.{EventFault}
use Rattle.log_events.specs.declared.fault.LogFault.{LogFault}
use Rattle.log_events.specs.declared.fault.LogFault.TheVariants.{NoLog, Encrypted, First, NoDescription, OtherSum}
use Rattle.log_events.specs.declared.log.Log.{Log}
use Rattle.list_laws.specs.Outcome.{◌>>=◌}
use Rattle.item_readers.specs.Reading.{Reading}
use Rattle.log_events.specs.Number.{number}
use Rattle.log_events.specs.Event.{LogEvent, IsEvent, NoEvent, AreEvents, event_at, events_of}

-- a log: whether the server was still writing it, the events behind its format description, and how many bytes stand
-- behind that
pub record LogValue : Type 0 where
  pub in_use : Bool
  pub events : Reading LogEvent EventFault
  pub left : ℕ

-- how a log of the program is seen
abbrev pub log_value : Log → LogValue
log_value l = record { in_use = l.in_use; events = l.events.reading; left = l.events.left }

-- ---- its parts

-- the bytes by which a log begins, and those by which an encrypted one does
abbrev pub magic : List ℕ
magic = 0xfe ∷ 0x62 ∷ 0x69 ∷ 0x6e ∷ []

abbrev pub encrypted_magic : List ℕ
encrypted_magic = 0xfd ∷ 0x62 ∷ 0x69 ∷ 0x6e ∷ []

-- A format description of version 4: the version, the server's name of 50 bytes, a time, the size of a head,
-- a byte for each type of event, and the checks of the log.
pub record IsFormat (event : LogEvent) : Type 0 where
  pub kind : event.kind ≡ 15
  pub long : 58 ≤ length event.body
  pub version : number 0 2 event.body ≡ 4
  pub head : number 56 1 event.body ≡ 19

-- which checks the log has, by the last byte of its format description
abbrev pub checks_of : LogEvent → ℕ
checks_of event = number (length event.body - 1) 1 event.body

-- the number of each
abbrev pub check_number : Bool → ℕ
check_number false = 0
check_number true = 1

-- ---- as a relation

-- the bytes are this log
pub record IsLog (bytes : List ℕ) (log : LogValue) : Type 0 where
  pub first : List ℕ
  pub rest : List ℕ
  pub description : LogEvent
  pub checked : Bool
  pub is : bytes ≡ magic ++ (first ++ rest)
  pub event : IsEvent true first description
  pub format : IsFormat description
  pub checks : checks_of description ≡ check_number checked
  pub in_use : log.in_use ≡ (description.flags % 2 == 1)
  pub events : AreEvents checked rest log.events
  pub left : log.left ≡ length rest

-- the bytes begin by an event that has a property
abbrev pub BeginsBy : List ℕ → (LogEvent → Type 0) → Type 0
BeginsBy bytes P = (first : List ℕ) × (rest : List ℕ) × (event : LogEvent) × (bytes ≡ magic ++ (first ++ rest)) × IsEvent true first event × P event

-- why the bytes aren't a log
abbrev pub NoLogFile : List ℕ → LogFault → Type 0
NoLogFile bytes NoLog = ((rest : List ℕ) → bytes ≢ magic ++ rest) × ((rest : List ℕ) → bytes ≢ encrypted_magic ++ rest)
NoLogFile bytes Encrypted = (rest : List ℕ) × (bytes ≡ encrypted_magic ++ rest)
NoLogFile bytes (First fault) = (rest : List ℕ) × (bytes ≡ magic ++ rest) × NoEvent true rest fault
NoLogFile bytes NoDescription = BeginsBy bytes (λ event. ¬ IsFormat event)
NoLogFile bytes OtherSum = BeginsBy bytes (λ event. IsFormat event × (2 ≤ checks_of event))

-- an answer is a log that the bytes are, or why they aren't one
abbrev pub AnswersLog : List ℕ → Result LogValue LogFault → Type 0
AnswersLog bytes (Ok log) = IsLog bytes log
AnswersLog bytes (Err fault) = NoLogFile bytes fault

-- ---- as a function

-- whether the bytes begin by this one and the letters `bin`
abbrev pub begins : ℕ → List ℕ → Bool
begins first bytes = (number 0 1 bytes == first) && (number 1 1 bytes == 0x62) && (number 2 1 bytes == 0x69) && (number 3 1 bytes == 0x6e)

-- whether an event is a format description of version 4
abbrev pub is_format : LogEvent → Bool
is_format event = (event.kind == 15) && nat_le 58 (length event.body) && (number 0 2 event.body == 4) && (number 56 1 event.body == 19)

-- whether the events behind a format description have checks
abbrev pub describes : LogEvent → Result Bool LogFault
describes event =
    if is_format event then (if checks_of event == 0 then Ok false else if checks_of event == 1 then Ok true else Err OtherSum) else Err NoDescription

-- what is read of the first event
abbrev pub of_first : {A : Type 0} → Result A EventFault → Result A LogFault
of_first (Ok x) = Ok x
of_first (Err fault) = Err (First fault)

-- the log of a file's bytes
unfoldable pub log_at : List ℕ → Result LogValue LogFault
log_at bytes =
    if begins 0xfe bytes then (of_first (event_at true (drop 4 bytes)) >>= λ first. describes first.0 >>= λ checked.
    Ok (record { in_use = first.0.flags % 2 == 1; events = events_of checked first.1; left = length first.1 }))
    else if begins 0xfd bytes then Err Encrypted else Err NoLog
