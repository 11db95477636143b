-- Events of a binary log (MySQL internals manual, "Binary Log Event"): a head of 19 bytes, a body, and where
-- the log has checksums the check of all that, in 4 bytes.
use Rattle.std.specs.Prelude.{◌≡◌, ℕ, ◌+◌, ◌-◌, ◌%◌, ◌<◌, ◌≤◌, ◌==◌, ◌⊎◌, Bool, true, false, if◌then◌else◌, nat_lt, List, [], ◌∷◌, ◌++◌, length, take, drop, Result, Ok, Err}
use Rattle.log_events.specs.declared.fault.EventFault.{EventFault}
use Rattle.log_events.specs.declared.fault.EventFault.TheVariants.{Cut, TooSmall, WrongSum}
use Rattle.log_events.specs.declared.event.Event.{Event}
use Rattle.item_readers.specs.Reading.{Reading, reading_of, Spells}
use Rattle.log_events.specs.Number.{number}
use Rattle.log_events.specs.Crc.{crc32}

-- an event: when it was written, its type, the server that wrote it, the size of all of it, its flags and
-- its body. Where it ends isn't told, since that number wraps in a log of more than four gigabytes.
pub record LogEvent : Type 0 where
  pub time : ℕ
  pub kind : ℕ
  pub server : ℕ
  pub size : ℕ
  pub flags : ℕ
  pub body : List ℕ

-- how an event of the program is seen
abbrev pub log_event : Event → LogEvent
log_event e = record { time = e.time; kind = e.kind; server = e.server; size = e.size; flags = e.flags; body = e.body.now }

-- how many bytes of an event its check takes
abbrev pub tail_size : Bool → ℕ
tail_size true = 4
tail_size false = 0

-- the event that fills these bytes, the last of which are its check: its fields by their places
abbrev pub event_in : ℕ → List ℕ → LogEvent
event_in tail bytes = record {
  time = number 0 4 bytes;
  kind = number 4 1 bytes;
  server = number 5 4 bytes;
  size = number 9 4 bytes;
  flags = number 17 2 bytes;
  body = drop 19 (take (length bytes - tail) bytes);
}

-- ---- the check

-- a byte of flags without the first of them
abbrev pub without_first : List ℕ → List ℕ
without_first [] = []
without_first (flags ∷ bytes) = (flags - flags % 2) ∷ bytes

-- The bytes of which an event's check is: a format description says by its first flag that the log is still
-- written, and the flag is turned off without a new check.
unfoldable pub settled : List ℕ → List ℕ
settled bytes = if number 4 1 bytes == 15 then take 17 bytes ++ without_first (drop 17 bytes) else bytes

-- the last four bytes are the check of the others, where the log has checks
abbrev pub SumHolds : Bool → List ℕ → Type 0
SumHolds false bytes = Unit {0}
SumHolds true bytes = number (length bytes - 4) 4 bytes ≡ crc32 (settled (take (length bytes - 4) bytes))

-- ---- as a relation

-- these bytes are the event
pub record IsEvent (checked : Bool) (bytes : List ℕ) (event : LogEvent) : Type 0 where
  pub long : 19 + tail_size checked ≤ length bytes
  pub size : number 9 4 bytes ≡ length bytes
  pub sum : SumHolds checked bytes
  pub is : event ≡ event_in (tail_size checked) bytes

-- Why no event stands at the front: the bytes end in the head; the event's size is below that of its head and
-- check; the bytes end before the event does; or its check isn't that of its bytes.
abbrev pub NoEvent : Bool → List ℕ → EventFault → Type 0
NoEvent checked bytes fault = ((fault ≡ Cut) × (length bytes < 19))
    ⊎ ((fault ≡ TooSmall) × (19 ≤ length bytes) × (number 9 4 bytes < 19 + tail_size checked))
    ⊎ ((fault ≡ Cut) × (19 ≤ length bytes) × (19 + tail_size checked ≤ number 9 4 bytes) × (length bytes < number 9 4 bytes))
    ⊎ ((fault ≡ WrongSum) × (19 + tail_size checked ≤ number 9 4 bytes) × (number 9 4 bytes ≤ length bytes) × ¬ SumHolds checked (take (number 9 4 bytes) bytes))

-- the bytes are these events, and then the end or this fault
abbrev pub AreEvents : Bool → List ℕ → Reading LogEvent EventFault → Type 0
AreEvents checked bytes r = Spells (IsEvent checked) (NoEvent checked) bytes r.items r.fault

-- ---- as a function

-- whether the check holds
abbrev pub sum_holds : Bool → List ℕ → Bool
sum_holds false bytes = true
sum_holds true bytes = number (length bytes - 4) 4 bytes == crc32 (settled (take (length bytes - 4) bytes))

-- the event at the front, of so many bytes, and the bytes after it
abbrev pub event_of_size : Bool → ℕ → List ℕ → Result (LogEvent × List ℕ) EventFault
event_of_size checked size bytes =
    if nat_lt size (19 + tail_size checked) then Err TooSmall else
    if nat_lt (length bytes) size then Err Cut else
    if sum_holds checked (take size bytes) then Ok (event_in (tail_size checked) (take size bytes), drop size bytes) else Err WrongSum

-- the event at the front, and the bytes after it
unfoldable pub event_at : Bool → List ℕ → Result (LogEvent × List ℕ) EventFault
event_at checked bytes = if nat_lt (length bytes) 19 then Err Cut else event_of_size checked (number 9 4 bytes) bytes

-- the events of the bytes, and the fault that ends them
abbrev pub events_of : Bool → List ℕ → Reading LogEvent EventFault
events_of checked bytes = reading_of (event_at checked) bytes
