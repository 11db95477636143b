-- A log's first bytes, cut behind one of its events: they are a log of its first events.
use Rattle.std.specs.Prelude.{◌≡◌, ℕ, ◌+◌, ◌-◌, ◌<◌, ◌≤◌, List, [], ◌∷◌, length, take, None, Ok}
use Rattle.log_events.specs.Number.{number}
use Rattle.log_events.specs.Event.{LogEvent}
use Rattle.log_events.specs.Log.{LogValue, log_at}

-- how many bytes events take
abbrev pub size_of_events : List LogEvent → ℕ
size_of_events [] = 0
size_of_events (event ∷ events) = event.size + size_of_events events

-- the byte behind a log's format description and its first so many events
abbrev pub byte_behind : List ℕ → LogValue → ℕ → ℕ
byte_behind bytes log many = (length bytes - log.left) + size_of_events (take many log.events.items)

-- the log that ends there: it has these events, and no fault
abbrev pub cut_behind : LogValue → ℕ → LogValue
cut_behind log many = record {
  in_use = log.in_use;
  events = record { items = take many log.events.items; fault = None };
  left = size_of_events (take many log.events.items);
}

-- ---- laws

-- The bytes up to there are that log. An event's size stands in its head, at the byte behind those before it. Behind all
-- events of a log without a fault its bytes end.
pub record AreCut (bytes : List ℕ) (log : LogValue) : Type 0 where
  pub within : (many : ℕ) → byte_behind bytes log many ≤ length bytes
  pub is : (many : ℕ) → log_at (take (byte_behind bytes log many) bytes) ≡ Ok (cut_behind log many)
  pub next : (many : ℕ) → many < length log.events.items → byte_behind bytes log (many + 1) ≡ byte_behind bytes log many + number (byte_behind bytes log many + 9) 4 bytes
  pub whole : log.events.fault ≡ None → byte_behind bytes log (length log.events.items) ≡ length bytes

abbrev pub CutsAreLogs : Type 0
CutsAreLogs = (bytes : List ℕ) (log : LogValue) → log_at bytes ≡ Ok log → AreCut bytes log

-- The first bytes of a log that are one without a fault are cut there, and have no other events.
pub record IsCutBehind (bytes : List ℕ) (log : LogValue) (byte : ℕ) (front : LogValue) : Type 0 where
  pub many : length front.events.items ≤ length log.events.items
  pub is : front ≡ cut_behind log (length front.events.items)
  pub stands : byte ≡ byte_behind bytes log (length front.events.items)

abbrev pub LogsAreCut : Type 0
LogsAreCut =
    (bytes : List ℕ) (log front : LogValue) (byte : ℕ) → log_at bytes ≡ Ok log → byte ≤ length bytes → log_at (take byte bytes) ≡ Ok front → front.events.fault ≡ None
    → IsCutBehind bytes log byte front

-- With one event more a log's first bytes end behind the event that stands there, as long as its head says.
abbrev pub NextIsCut : Type 0
NextIsCut =
    (bytes : List ℕ) (byte next : ℕ) (front more : LogValue) → byte ≤ length bytes → next ≤ length bytes → log_at (take byte bytes) ≡ Ok front → front.events.fault ≡ None → log_at (take next bytes) ≡ Ok more → more.events.fault ≡ None
    → length more.events.items ≡ length front.events.items + 1 → next ≡ byte + number (byte + 9) 4 bytes
