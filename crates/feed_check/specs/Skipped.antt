-- Events that may change rows without saying which; the reader passes over them (`binlogdata.proto`, VEvent).
use Rattle.std.specs.Prelude.{ℕ, ◌+◌, ◌==◌, ◌||◌, Bool, List, [], ◌∷◌, ◌++◌, if◌then◌else◌}
use Rattle.std.specs.List.{flat_map}
use Rattle.proto_wire.specs.Frame.{frames_of}
use Rattle.proto_wire.specs.Parts.{parts, scalar, text}

-- an event that is passed over: the number of its message in the feed, from 1, its type's number, and its statement,
-- empty where it has none
pub record SkippedValue : Type 0 where
  pub message : ℕ
  pub kind : ℕ
  pub statement : List ℕ

-- VEventType: DDL = 5, OTHER = 11, SAVEPOINT = 19
abbrev pub is_skipped : ℕ → Bool
is_skipped kind = kind == 5 || kind == 11 || kind == 19

-- VEvent: type = 1, statement = 4
abbrev pub skipped_at : ℕ → List ℕ → List SkippedValue
skipped_at message event = if is_skipped (scalar 1 event) then record { message = message; kind = scalar 1 event; statement = text 4 event } ∷ [] else []

-- VStreamResponse: events = 1
abbrev pub skipped_in : ℕ → List ℕ → List SkippedValue
skipped_in number message = flat_map (skipped_at number) (parts 1 message)

-- those of messages, the first of which has a number
abbrev pub skipped_from : ℕ → List (List ℕ) → List SkippedValue
skipped_from number [] = []
skipped_from number (message ∷ later) = skipped_in number message ++ skipped_from (number + 1) later

-- those of a feed, in order
abbrev pub skipped_of : List ℕ → List SkippedValue
skipped_of feed = skipped_from 1 (frames_of feed).items
