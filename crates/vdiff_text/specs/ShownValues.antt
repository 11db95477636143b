-- A value of a column as a person reads it (this profile): no two values look the same.
use Rattle.std.specs.Prelude.{ℕ, ◌==◌, ◌&&◌, ◌||◌, ◌-◌, nat_le, nat_lt, not, Bool, false, List, ◌++◌, length, Option, None, Some, codes, slice_get, if◌then◌else◌}
use Rattle.std.specs.List.{list_all}
use Rattle.std.specs.Str.{bytes_eq}
use Rattle.hex.specs.Hex.{encode_lower}

-- a byte that is printable in ASCII, and isn't the bar that parts values
abbrev pub is_plain_byte : ℕ → Bool
is_plain_byte byte = nat_le 32 byte && nat_le byte 126 && not (byte == 124)

-- whether this byte is there
abbrev pub is_byte : ℕ → Option ℕ → Bool
is_byte byte None = false
is_byte byte (Some there) = there == byte

-- whether a text begins or ends in a space
abbrev pub has_space_at_end : List ℕ → Bool
has_space_at_end text = is_byte 32 (slice_get text 0) || is_byte 32 (slice_get text (length text - 1))

-- whether it looks as no text does: as NULL, or as digits behind 0x
abbrev pub looks_otherwise : List ℕ → Bool
looks_otherwise text = bytes_eq text (codes "NULL") || (is_byte 48 (slice_get text 0) && is_byte 120 (slice_get text 1))

-- whether a value is shown as it is
abbrev pub is_plain : List ℕ → Bool
is_plain text = nat_lt 0 (length text) && list_all is_plain_byte text && not (has_space_at_end text) && not (looks_otherwise text)

-- a value: as it is where that can be read, else its bytes in hexadecimal behind `0x`
abbrev pub shown_value : List ℕ → List ℕ
shown_value value = if is_plain value then value else codes "0x" ++ encode_lower value

abbrev pub shown_cell : Option (List ℕ) → List ℕ
shown_cell None = codes "NULL"
shown_cell (Some value) = shown_value value
