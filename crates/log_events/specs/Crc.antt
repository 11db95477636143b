-- The cyclic redundancy check of 32 bits (RFC 1952, section 8).
use Rattle.std.specs.Prelude.{◌≡◌, ℕ, zero, suc, ◌+◌, ◌/◌, ◌%◌, ◌<◌, ◌==◌, if◌then◌else◌, List, [], ◌∷◌, length, slice_index, bit_xor}

-- a remainder one bit on
unfoldable pub crc_bit : ℕ → ℕ
crc_bit c = if c % 2 == 1 then bit_xor 0xedb88320 (c / 2) else c / 2

-- a remainder eight bits on
unfoldable pub crc_entry : ℕ → ℕ
crc_entry c = crc_bit (crc_bit (crc_bit (crc_bit (crc_bit (crc_bit (crc_bit (crc_bit c)))))))

-- the remainder behind one more byte
unfoldable pub crc_byte : ℕ → ℕ → ℕ
crc_byte c b = bit_xor (crc_entry (bit_xor c b % 256)) (c / 256)

-- the remainder behind more bytes
unfoldable pub crc_from : ℕ → List ℕ → ℕ
crc_from c [] = c
crc_from c (b ∷ bytes) = crc_from (crc_byte c b) bytes

-- the check of some bytes
unfoldable pub crc32 : List ℕ → ℕ
crc32 bytes = bit_xor (crc_from 0xffffffff bytes) 0xffffffff

-- a remainder so many bytes of zero on
unfoldable pub crc_ahead : ℕ → ℕ → ℕ
crc_ahead zero c = c
crc_ahead (suc n) c = crc_entry (crc_ahead n c)

-- a list has in its first 256 places the remainder of each byte one byte on, in the next 256 two bytes on, and so up to eight
pub record IsTable (entries : List ℕ) : Type 0 where
  pub long : length entries ≡ 2048
  pub each : (n : ℕ) → n < 2048 → slice_index entries n ≡ crc_ahead (n / 256 + 1) (n % 256)
