-- The comma of a character set, which parts the labels of a SET.
use Rattle.std.specs.Prelude.{ℕ, ◌-◌, ◌==◌, ◌&&◌, ◌||◌, Bool, if◌then◌else◌, nat_le, List, [], ◌∷◌, Option, None, Some}
use Rattle.log_values.specs.declared.comma.Comma.{Comma}
use Rattle.log_values.specs.declared.comma.Comma.TheVariants.{Byte, Utf16, Utf16Le, Utf32}

-- its bytes: a unit of the character set with the number 2C, in big-endian order but for utf16le
abbrev pub comma_bytes : Comma → List ℕ
comma_bytes Byte = 0x2C ∷ []
comma_bytes Utf16 = 0 ∷ 0x2C ∷ []
comma_bytes Utf16Le = 0x2C ∷ 0 ∷ []
comma_bytes Utf32 = 0 ∷ 0 ∷ 0 ∷ 0x2C ∷ []

-- ---- by a collation's number (information_schema.collations of MySQL 8 and MariaDB 10.11)

abbrev pub is_from : ℕ → ℕ → ℕ → Bool
is_from first last n = nat_le first n && nat_le n last

-- MariaDB counts the collation of the same name with NO PAD 1024 further on
abbrev pub padded : ℕ → ℕ
padded n = if is_from 1024 2047 n then n - 1024 else n

-- those of ucs2 and of utf16, in MariaDB from 2048 on 256 for each character set
abbrev pub is_utf16 : ℕ → Bool
is_utf16 n =
    (n == 35) || (n == 90) || is_from 128 151 n || (n == 159) || is_from 640 642 n || is_from 2560 2815 n
    || is_from 54 55 n || is_from 101 124 n || is_from 672 674 n || is_from 2816 3071 n

-- those of utf16le
abbrev pub is_utf16le : ℕ → Bool
is_utf16le n = (n == 56) || (n == 62)

-- those of utf32
abbrev pub is_utf32 : ℕ → Bool
is_utf32 n = is_from 60 61 n || is_from 160 183 n || is_from 736 738 n || is_from 3072 3327 n

-- those of all others, which have ASCII's signs in a byte each
abbrev pub is_byte : ℕ → Bool
is_byte n =
    is_from 1 34 n || is_from 36 53 n || is_from 57 59 n || is_from 63 89 n || is_from 91 99 n || is_from 192 215 n
    || is_from 223 250 n || is_from 255 323 n || is_from 576 578 n || is_from 608 610 n || is_from 2048 2559 n

-- the comma of a collation's character set; of a number that no server has it isn't known
unfoldable pub comma_of : ℕ → Option Comma
comma_of collation =
    let n = padded collation in
    if is_utf16 n then Some Utf16 else if is_utf16le n then Some Utf16Le else if is_utf32 n then Some Utf32
    else if is_byte n then Some Byte else None
