-- Where in its file a fault of logs stands (this profile): at the event that is at fault, or at the first one of the transaction
-- that can't be told, behind so many others. It is said by the file's first bytes: what these are as a log.
use Rattle.std.specs.Prelude.{◌≡◌, ℕ, ◌+◌, ◌≤◌, List, length, take, Option, None, Some, Ok}
use Rattle.log_events.specs.declared.fault.EventFault.{EventFault}
use Rattle.log_events.specs.declared.fault.LogFault.{LogFault}
use Rattle.log_events.specs.declared.fault.LogFault.TheVariants.{NoLog, Encrypted}
use Rattle.log_events.specs.Log.{LogValue, log_at}
use Rattle.log_groups.specs.declared.fault.GroupFault.{GroupFault}
use Rattle.log_groups.specs.declared.fault.GroupFault.TheVariants.{Event, Unended, Twice, NotPrepared, StillPrepared}
use Rattle.log_groups.specs.Cuts.{MayGoOn}
use Rattle.log_groups.specs.Step.{steps_of}
use Rattle.log_groups.specs.Transaction.{transactions_of}
use Rattle.log_places.specs.declared.fault.PlaceFault.{PlaceFault}
use Rattle.log_places.specs.declared.fault.PlaceFault.TheVariants.{GoesBack, NoNumber}
use Rattle.log_course.specs.declared.fault.CourseFault.{CourseFault}
use Rattle.log_course.specs.declared.fault.CourseFault.TheVariants.{Log, Group, Place}
use Rattle.log_laws.specs.declared.fault.TellFault.TheVariants.{Change, Position}
use Rattle.log_transcribe.specs.declared.fault.LogsFault.{LogsFault}
use Rattle.log_transcribe.specs.declared.fault.LogsFault.TheVariants.{Course, Tell, TooLong}

-- ---- a file's first bytes

-- The first so many bytes of a file are a log of so many events, none of which is at fault. They are so many transactions, and
-- then their end or this fault.
pub record IsCut (bytes : List ℕ) (byte events transactions : ℕ) (end : Option GroupFault) : Type 0 where
  pub within : byte ≤ length bytes
  pub log : LogValue
  pub is : log_at (take byte bytes) ≡ Ok log
  pub sound : log.events.fault ≡ None
  pub many : length log.events.items ≡ events
  pub told : length (transactions_of (steps_of log.events)).items ≡ transactions
  pub ends : (transactions_of (steps_of log.events)).fault ≡ end

-- Behind so many transactions one begins at the byte: no other one is open there, and with the event that stands there one is.
pub record BeginsAt (bytes : List ℕ) (byte transactions : ℕ) : Type 0 where
  pub events : ℕ
  pub next : ℕ
  pub before : IsCut bytes byte events transactions None
  pub behind : IsCut bytes next (events + 1) transactions (Some Unended)

-- those before the byte are at no fault, and with the event that stands there they are at this one
pub record FailsAt (bytes : List ℕ) (byte : ℕ) (fault : GroupFault) : Type 0 where
  pub events : ℕ
  pub transactions : ℕ
  pub end : Option GroupFault
  pub sofar : MayGoOn end
  pub next : ℕ
  pub before : IsCut bytes byte events transactions end
  pub behind : IsCut bytes next (events + 1) transactions (Some fault)

-- all events that the file has stand before the byte, and behind them the end or this fault
pub record EndsAt (bytes : List ℕ) (byte : ℕ) (fault : Option EventFault) : Type 0 where
  pub events : ℕ
  pub transactions : ℕ
  pub end : Option GroupFault
  pub before : IsCut bytes byte events transactions end
  pub log : LogValue
  pub is : log_at bytes ≡ Ok log
  pub all : length log.events.items ≡ events
  pub stops : log.events.fault ≡ fault

-- ---- where a fault stands

-- a file that is no log
abbrev pub byte_of_log : LogFault → ℕ
byte_of_log NoLog = 0
byte_of_log Encrypted = 0
byte_of_log fault = 4

-- the transaction at fault begins there: behind just so many of the file as are told, if it is begun with
abbrev pub BeginsBehind : List ℕ → Option ℕ → ℕ → Type 0
BeginsBehind bytes None byte = ⊥
BeginsBehind bytes (Some told) byte = BeginsAt bytes byte told

-- events: one that isn't read stands behind all others; a transaction that has no end begins there, and the file has no further
-- one; the one whose XA transaction can't be prepared or ended begins there; one that is still prepared is at fault where the
-- events end; any other fault is an event's
abbrev pub GroupAt : List ℕ → Option ℕ → GroupFault → ℕ → Type 0
GroupAt bytes told (Event fault) byte = EndsAt bytes byte (Some fault)
GroupAt bytes told Unended byte = (transactions : ℕ) × (events : ℕ) × BeginsAt bytes byte transactions × IsCut bytes (length bytes) events transactions (Some Unended)
GroupAt bytes told Twice byte = BeginsBehind bytes told byte
GroupAt bytes told NotPrepared byte = BeginsBehind bytes told byte
GroupAt bytes told StillPrepared byte = (fault : Option EventFault) × EndsAt bytes byte fault
GroupAt bytes told fault byte = FailsAt bytes byte fault

-- no event stands before it
abbrev pub IsFirst : List ℕ → ℕ → Type 0
IsFirst bytes byte = IsCut bytes byte 0 0 None

-- a position that has no number: that of a transaction, or in the list with which the file begins
abbrev pub NoNumberAt : List ℕ → Option ℕ → ℕ → Type 0
NoNumberAt bytes None byte = IsFirst bytes byte
NoNumberAt bytes (Some told) byte = BeginsAt bytes byte told

-- positions: of a transaction that has been before, or that has no number; any other fault is of the list with which the file
-- begins
abbrev pub PlaceAt : List ℕ → Option ℕ → PlaceFault → ℕ → Type 0
PlaceAt bytes told GoesBack byte = BeginsBehind bytes told byte
PlaceAt bytes told NoNumber byte = NoNumberAt bytes told byte
PlaceAt bytes told fault byte = IsFirst bytes byte

abbrev pub CourseAt : List ℕ → Option ℕ → CourseFault → ℕ → Type 0
CourseAt bytes told (Log fault) byte = byte ≡ byte_of_log fault
CourseAt bytes told (Group fault) byte = GroupAt bytes told fault byte
CourseAt bytes told (Place fault) byte = PlaceAt bytes told fault byte

-- The fault stands at this byte of a file's bytes, of which so many transactions are told before it, or none where the file
-- isn't begun with. A position that is too long, and a feed, have none.
abbrev pub StandsAt : List ℕ → Option ℕ → LogsFault → ℕ → Type 0
StandsAt bytes told (Course file fault) byte = CourseAt bytes told fault byte
StandsAt bytes told (Tell file (Change fault)) byte = BeginsBehind bytes told byte
StandsAt bytes told (Tell file Position) byte = ⊥
StandsAt bytes told (TooLong file) byte = ⊥

-- at no byte of them
abbrev pub StandsNowhere : List ℕ → Option ℕ → LogsFault → Type 0
StandsNowhere bytes told fault = (byte : ℕ) → StandsAt bytes told fault byte → ⊥
