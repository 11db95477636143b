-- An exchange of a block's bits in place.
use Rattle.std.specs.Prelude.{ℕ, ◌*◌, ◌/◌, ◌%◌, ◌^◌, bit_and, bit_xor}

-- Where two bits differ, one at a place of the mask and the one that stands some places higher, both
-- are turned over.
unfoldable pub exchanged : ℕ → ℕ → ℕ → ℕ
exchanged block places mask =
    let differing = bit_and (bit_xor block (block / 2 ^ places)) mask in
    bit_xor (bit_xor block differing) (differing * 2 ^ places % 2 ^ 64)
