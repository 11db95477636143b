-- The message at the front of some bytes, by where it stands in them.
use Rattle.std.specs.Prelude.{ℕ, ◌+◌, ◌≤◌, List, length, take}
use Rattle.proto_wire.specs.Varint.{IsVarint}

-- The bytes before `start` are the varint of `size`, and so many bytes stand behind them: the message (protobuf encoding
-- guide; each message of a feed stands behind its length).
pub record StandsAt (bytes : List ℕ) (start size : ℕ) : Type 0 where
  pub length_before : IsVarint (take start bytes) size
  pub within : start + size ≤ length bytes
