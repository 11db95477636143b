-- The messages of a feed: the first that isn't read, and where one begins (this profile).
use Rattle.std.specs.Prelude.{ℕ, zero, suc, ◌+◌, ◌-◌, Bool, List, [], ◌∷◌, length, Option, None, Some, Result, Ok, Err, is_none, unwrap_or, if◌then◌else◌}
use Rattle.proto_wire.specs.declared.fault.WireFault.{WireFault}
use Rattle.proto_wire.specs.Field.{sized_at}
use Rattle.proto_wire.specs.Frame.{frames_of}
use Rattle.vevent.specs.Response.{response_of}

-- ---- what isn't read

-- the message is a list of events, and each of them is read
unfoldable pub is_read_message : List ℕ → Bool
is_read_message message = is_none (response_of message).fault

-- the first of some messages that isn't read, these being numbered from one on
abbrev pub first_unread : ℕ → List (List ℕ) → Option ℕ
first_unread i [] = None
first_unread i (message ∷ messages) = if is_read_message message then first_unread (i + 1) messages else Some i

-- that of a feed, from 1; where all are read, what stands behind them is no message
abbrev pub unread_message : List ℕ → ℕ
unread_message feed = unwrap_or (first_unread 1 (frames_of feed).items) (length (frames_of feed).items + 1)

-- ---- where a message begins

-- what stands behind the message at the front; all of it where none stands there
abbrev pub behind_first : Result (List ℕ × List ℕ) WireFault → List ℕ → List ℕ
behind_first (Ok first) bytes = first.1
behind_first (Err fault) bytes = bytes

abbrev pub behind_message : List ℕ → List ℕ
behind_message bytes = behind_first (sized_at bytes) bytes

-- behind the first n messages
abbrev pub behind : ℕ → List ℕ → List ℕ
behind zero bytes = bytes
behind (suc n) bytes = behind n (behind_message bytes)

-- the first byte of a message, from 0, by the message's number, from 1
abbrev pub byte_of : ℕ → List ℕ → ℕ
byte_of number feed = length feed - length (behind (number - 1) feed)
