-- Messages on their way to a writer, file by file.
use Rattle.std.specs.Prelude.{◌≡◌, ◌<◌, ◌≤◌, ℕ, ◌+◌, ◌-◌, ◌^◌, min, Bool, true, false, List, [], ◌++◌, length, Option, None, Some, Result, Ok, Err}
use Rattle.printing.specs.Printing.{Written, IsWritten, BreaksOff}
use Rattle.vevent.specs.EventValue.{EventValue}
use Rattle.log_groups.specs.Group.{WaitingValue, still_waits}
use Rattle.log_transcribe.specs.declared.fault.LogsFault.{LogsFault}
use Rattle.log_transcribe.specs.declared.fault.LogsError.{LogsError}
use Rattle.log_transcribe.specs.declared.fault.LogsError.TheVariants as logs_error
use Rattle.log_transcribe.specs.declared.fault.StreamError.{StreamError}
use Rattle.log_transcribe.specs.declared.fault.StreamError.TheVariants as stop
use Rattle.log_transcribe.specs.declared.fault.BehindFault.TheVariants.{Feed, Logs}
use Rattle.log_transcribe.specs.declared.fault.BehindError.{BehindError}
use Rattle.log_transcribe.specs.declared.fault.BehindError.TheVariants as behind_error
use Rattle.log_transcribe.specs.declared.outgoing.Outgoing.{Outgoing}
use Rattle.log_transcribe.specs.Byte.{StandsAt, StandsNowhere}
use Rattle.log_transcribe.specs.Files.{GaveFrom}
use Rattle.log_transcribe.specs.Private.Bytes.{with_messages, with_waiting, last_with, bytes_told}

-- what a writer took, what waits to be written, and how many bytes were, as far as 64 bits count
pub record Sending : Type 0 where
  pub written : Written
  pub waits : List ℕ
  pub sent : ℕ

abbrev pub sending : Written → Outgoing → Sending
sending written o = record { written = written; waits = o.waits.items; sent = o.sent }

abbrev pub counted : ℕ → ℕ
counted n = min n (2 ^ 64 - 1)

-- these bytes were written, and counted
pub record WentOut (old new : Sending) (gone : List ℕ) : Type 0 where
  pub written : IsWritten old.written new.written gone
  pub sent : (n : ℕ) → old.sent ≡ counted n → new.sent ≡ counted (n + length gone)

-- some of what waited went out, and the rest waits
abbrev pub Sends : Result (Unit {0}) StreamError → Sending → Sending → Type 0
Sends (Ok x) old new = (gone : List ℕ) × WentOut old new gone × (old.waits ≡ gone ++ new.waits)
Sends (Err stop.Unwritten) old new = (text : List ℕ) × BreaksOff old.written new.written text
Sends (Err error) old new = ⊥

-- messages, each as its events, and how far they go
abbrev pub Going : Type 0 → Type 0
Going A = List (List EventValue) × A

-- the rest is told behind what went out and what waits now, as all was behind what waited
abbrev pub GoesOn : {A : Type 0} → Result (Going A) LogsFault → Result (Going A) LogsFault → Sending → Sending → Type 0
GoesOn all rest old new = (gone : List ℕ) × WentOut old new gone × (with_messages all old.waits ≡ with_messages rest (gone ++ new.waits))

-- nothing more is told
abbrev pub done : {A : Type 0} → A → Result (Going A) LogsFault
done far = Ok ([], far)

-- why it doesn't go on: the fault of what is told; or a write failed, or memory was wanting
abbrev pub Stops : {X : Type 0} → Result X LogsFault → StreamError → Written → Written → Type 0
Stops all stop.Memory old new = Unit {0}
Stops all stop.Unwritten old new = (text : List ℕ) × BreaksOff old new text
Stops all (stop.Fault fault byte) old new = all ≡ Err fault
Stops all error old new = ⊥

-- nothing, and no fault
abbrev pub nothing : Result (Unit {0}) LogsFault
nothing = Ok tt

-- all is told
abbrev pub Puts : {A X : Type 0} → Result (Going A) LogsFault → A → Result X StreamError → Sending → Sending → Type 0
Puts all far (Ok x) old new = GoesOn all (done far) old new
Puts all far (Err error) old new = Stops all error old.written new.written

-- the next part is told, of so many that are left fewer are; or there was none
abbrev pub PutsOne : {A : Type 0} → Result (Going A) LogsFault → Result (Going A) LogsFault → A → ℕ → ℕ → Result Bool StreamError → Sending → Sending → Type 0
PutsOne all rest far left fewer (Ok true) old new = GoesOn all rest old new × (fewer < left)
PutsOne all rest far left fewer (Ok false) old new = GoesOn all (done far) old new
PutsOne all rest far left fewer (Err error) old new = Stops all error old.written new.written

-- an error of the logs, with some byte, unless memory was wanting where that was looked for
abbrev pub IsOfLogs : LogsError → StreamError → Type 0
IsOfLogs logs_error.Memory error = error ≡ stop.Memory
IsOfLogs (logs_error.Fault fault) stop.Memory = Unit {0}
IsOfLogs (logs_error.Fault fault) (stop.Fault other byte) = other ≡ fault
IsOfLogs (logs_error.Fault fault) error = ⊥

-- where a byte is told of a file's bytes, the fault stands there, behind so many of its transactions that are told; none is where
-- it stands at none
abbrev pub IsByteAt : List ℕ → Option ℕ → LogsFault → Option ℕ → Type 0
IsByteAt bytes told fault None = StandsNowhere bytes told fault
IsByteAt bytes told fault (Some byte) = StandsAt bytes told fault byte

abbrev pub StopsAt : List ℕ → Option ℕ → StreamError → Type 0
StopsAt bytes told (stop.Fault fault byte) = IsByteAt bytes told fault byte
StopsAt bytes told error = Unit {0}

abbrev pub TellsByte : {X : Type 0} → List ℕ → Option ℕ → Result X StreamError → Type 0
TellsByte bytes told (Ok x) = Unit {0}
TellsByte bytes told (Err error) = StopsAt bytes told error

-- a fault of no file has none
abbrev pub StopsNowhere : StreamError → Type 0
StopsNowhere (stop.Fault fault byte) = byte ≡ None
StopsNowhere error = Unit {0}

abbrev pub TellsNone : {X : Type 0} → Result X StreamError → Type 0
TellsNone (Ok x) = Unit {0}
TellsNone (Err error) = StopsNowhere error

-- one transaction more is told, or the next one isn't
abbrev pub CountsOne : Result Bool LogsError → ℕ → ℕ → Type 0
CountsOne (Ok true) old new = old ≡ new + 1
CountsOne (Ok false) old new = Unit {0}
CountsOne (Err logs_error.Memory) old new = Unit {0}
CountsOne (Err (logs_error.Fault fault)) old new = old ≡ 0

abbrev pub CountsSent : Result Bool StreamError → ℕ → ℕ → Type 0
CountsSent (Ok true) old new = old ≡ new + 1
CountsSent answer old new = Unit {0}

-- a fault of the logs; any other error is want of memory there
abbrev pub logs_error_of : StreamError → LogsError
logs_error_of (stop.Fault fault byte) = logs_error.Fault fault
logs_error_of error = logs_error.Memory

-- the same, or a fault of the feed
abbrev pub behind_error_of : StreamError → BehindError
behind_error_of (stop.Fault fault byte) = behind_error.Fault (Logs fault)
behind_error_of (stop.Feed fault) = behind_error.Fault (Feed fault)
behind_error_of error = behind_error.Memory

-- ---- files

-- all is told of a file, and what waits behind it is left
abbrev pub PutsLog : {A X : Type 0} → Result (Going A × List WaitingValue) LogsFault → (X → List WaitingValue) → A → Result X StreamError → Sending → Sending → Type 0
PutsLog all left far (Ok x) old new = (gone : List ℕ) × WentOut old new gone × (with_waiting all old.waits ≡ Ok ((gone ++ new.waits, far), left x))
PutsLog all left far (Err error) old new = Stops all error old.written new.written

-- nothing is at fault, or it says what
abbrev pub Stills : Result (Unit {0}) LogsFault → Result (Unit {0}) StreamError → Type 0
Stills all (Ok x) = all ≡ Ok tt
Stills all (Err stop.Memory) = Unit {0}
Stills all (Err (stop.Fault fault byte)) = all ≡ Err fault
Stills all (Err error) = ⊥

-- what files tell from one on, by what waits before it and how far is told there
abbrev pub Telling : Type 0 → Type 0
Telling A = ℕ → List WaitingValue → List (List ℕ) → A → Result (Going A) LogsFault

-- where a fault of files stands; of those from one on too
abbrev pub Places : Type 1
Places = List (List ℕ) → LogsFault → Option ℕ → Type 0

abbrev pub Placing : Type 0 → Type 1
Placing A = ℕ → List WaitingValue → List (List ℕ) → A → LogsFault → Option ℕ → Type 0

-- The files from one on gave bytes, and all is told that these tell.
pub record AreTold {A : Type 0} (tells : List (List ℕ) → Result (Going A) LogsFault) (Gives : ℕ → List ℕ → Type 0) (file many : ℕ) (next : A) (old new : Sending) : Type 0 where
  pub logs : List (List ℕ)
  pub gave : GaveFrom Gives file logs
  pub all : file + length logs ≡ many
  pub goes : GoesOn (tells logs) (done next) old new

-- By what the files from one on gave there is a fault, whatever the others have; and where it stands in these bytes.
pub record AreRefused {X : Type 0} (tells : List (List ℕ) → Result X LogsFault) (IsByte : Places) (Gives : ℕ → List ℕ → Type 0) (file many : ℕ) (fault : LogsFault) (byte : Option ℕ) : Type 0 where
  pub logs : List (List ℕ)
  pub gave : GaveFrom Gives file logs
  pub within : file + length logs ≤ many
  pub is : (others : List (List ℕ)) → file + (length logs + length others) ≡ many → tells (logs ++ others) ≡ Err fault
  pub there : IsByte logs fault byte

-- The files from one on gave bytes up to this one of so many.
pub record AreUnread (Gives : ℕ → List ℕ → Type 0) (file many at : ℕ) : Type 0 where
  pub within : at < many
  pub logs : List (List ℕ)
  pub gave : GaveFrom Gives file logs
  pub before : file + length logs ≡ at

abbrev pub PutsFiles : {A : Type 0} → (List (List ℕ) → Result (Going A) LogsFault) → Places → (ℕ → List ℕ → Type 0) → ℕ → ℕ → A → Result (Unit {0}) StreamError → Sending → Sending → Type 0
PutsFiles tells IsByte Gives file many next (Ok x) old new = AreTold tells Gives file many next old new
PutsFiles tells IsByte Gives file many next (Err (stop.Unread at)) old new = AreUnread Gives file many at
PutsFiles tells IsByte Gives file many next (Err (stop.Fault fault byte)) old new = AreRefused tells IsByte Gives file many fault byte
PutsFiles tells IsByte Gives file many next (Err error) old new = Stops nothing error old.written new.written

-- The files from one on gave bytes up to another one, and all is told that they tell: the others are told behind that, where
-- these wait, and a fault of theirs stands where it does there.
pub record GoesTo {A : Type 0} (all : List (List ℕ) → Result (Going A) LogsFault) (IsByte : Places) (tells : Telling A) (IsBytes : Placing A) (Gives : ℕ → List ℕ → Type 0) (file to : ℕ) (left : List WaitingValue) (next : A) (old new : Sending) : Type 0 where
  pub logs : List (List ℕ)
  pub gave : GaveFrom Gives file logs
  pub to_there : file + length logs ≡ to
  pub gone : List ℕ
  pub went : WentOut old new gone
  pub goes : (others : List (List ℕ)) → with_messages (all (logs ++ others)) old.waits ≡ with_messages (tells to left others next) (gone ++ new.waits)
  pub there : (others : List (List ℕ)) (fault : LogsFault) (byte : Option ℕ) → IsBytes to left others next fault byte → IsByte (logs ++ others) fault byte

-- of so many files: nothing waits before another one, and behind the last one nothing that changes anything
pub record IsSettled (many to : ℕ) (left : List WaitingValue) : Type 0 where
  pub before : to < many → left ≡ []
  pub changes : still_waits left ≡ false

pub record GoesOver {A : Type 0} (all : List (List ℕ) → Result (Going A) LogsFault) (IsByte : Places) (tells : Telling A) (IsBytes : Placing A) (Gives : ℕ → List ℕ → Type 0) (file many to : ℕ) (next : A) (old new : Sending) : Type 0 where
  pub left : List WaitingValue
  pub goes : GoesTo all IsByte tells IsBytes Gives file to left next old new
  pub settled : IsSettled many to left

abbrev pub PutsSpan : {A : Type 0} → (List (List ℕ) → Result (Going A) LogsFault) → Places → Telling A → Placing A → (ℕ → List ℕ → Type 0) → ℕ → ℕ → A → Result ℕ StreamError → Sending → Sending → Type 0
PutsSpan all IsByte tells IsBytes Gives file many next (Ok to) old new = GoesOver all IsByte tells IsBytes Gives file many to next old new
PutsSpan all IsByte tells IsBytes Gives file many next (Err (stop.Unread at)) old new = AreUnread Gives file many at
PutsSpan all IsByte tells IsBytes Gives file many next (Err (stop.Fault fault byte)) old new = AreRefused all IsByte Gives file many fault byte
PutsSpan all IsByte tells IsBytes Gives file many next (Err error) old new = Stops nothing error old.written new.written

-- ---- the end

-- the last messages are told behind what waited, and nothing waits
abbrev pub PutsEnd : Result (List (List EventValue)) LogsFault → Result (Unit {0}) StreamError → Sending → Sending → Type 0
PutsEnd last (Ok x) old new = (gone : List ℕ) × WentOut old new gone × (last_with last old.waits ≡ Ok gone)
PutsEnd last (Err error) old new = Stops last error old.written new.written

-- ---- the whole

-- The files from one on gave bytes, and what is told of these was written, so many bytes.
pub record AreWritten (tells : List (List ℕ) → Result (List (List EventValue)) LogsFault) (Gives : ℕ → List ℕ → Type 0) (file many size : ℕ) (old new : Written) : Type 0 where
  pub logs : List (List ℕ)
  pub gave : GaveFrom Gives file logs
  pub all : file + length logs ≡ many
  pub feed : List ℕ
  pub is : bytes_told (tells logs) ≡ Ok feed
  pub written : IsWritten old new feed
  pub many_bytes : size ≡ counted (length feed)

abbrev pub TellsAll : (List (List ℕ) → Result (List (List EventValue)) LogsFault) → Places → (ℕ → List ℕ → Type 0) → ℕ → ℕ → Result ℕ StreamError → Written → Written → Type 0
TellsAll tells IsByte Gives file many (Ok size) old new = AreWritten tells Gives file many size old new
TellsAll tells IsByte Gives file many (Err (stop.Unread at)) old new = AreUnread Gives file many at
TellsAll tells IsByte Gives file many (Err (stop.Fault fault byte)) old new = AreRefused tells IsByte Gives file many fault byte
TellsAll tells IsByte Gives file many (Err error) old new = Stops nothing error old new
