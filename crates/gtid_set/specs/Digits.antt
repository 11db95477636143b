-- Numbers and uuids as text: decimal digits, and hexadecimal digits of either case in groups of 8, 4, 4, 4 and 12 (RFC 9562).
use Rattle.std.specs.Prelude.{ℕ, ◌+◌, ◌-◌, ◌*◌, ◌==◌, ◌&&◌, Bool, nat_le, if◌then◌else◌, Option, Some, None, option_and_then, List, [], ◌∷◌, length, take, drop, slice_index}

-- one step after another, where each gives something
infixl 10 ◌>>=◌
abbrev pub ◌>>=◌ : {A B : Type 0} → Option A → (A → Option B) → Option B
o >>= f = option_and_then f o

-- the value of a decimal digit
abbrev pub digit_of : ℕ → Option ℕ
digit_of b = if nat_le 48 b && nat_le b 57 then Some (b - 48) else None

-- the value of a hexadecimal digit of either case
abbrev pub hex_digit_of : ℕ → Option ℕ
hex_digit_of b =
    if nat_le 48 b && nat_le b 57 then Some (b - 48)
    else (if nat_le 97 b && nat_le b 102 then Some (b - 87)
    else (if nat_le 65 b && nat_le b 70 then Some (b - 55) else None))

-- the number that digits of a base say behind a number in front of them
abbrev pub number_behind : (ℕ → Option ℕ) → ℕ → ℕ → List ℕ → Option ℕ
number_behind digit base front [] = Some front
number_behind digit base front (b ∷ text) = option_and_then (λ d. number_behind digit base (front * base + d) text) (digit b)

-- the number of one or more decimal digits
abbrev pub decimal_of : List ℕ → Option ℕ
decimal_of [] = None
decimal_of (b ∷ text) = number_behind digit_of 10 0 (b ∷ text)

-- the four hyphens of a uuid's 36 bytes stand at their places
abbrev pub is_hyphenated : List ℕ → Bool
is_hyphenated text = length text == 36 && (slice_index text 8 == 45 && (slice_index text 13 == 45 && (slice_index text 18 == 45 && slice_index text 23 == 45)))

-- the number of a uuid's text: its 32 digits, in groups of 8, 4, 4, 4 and 12 with hyphens between
unfoldable pub uuid_of : List ℕ → Option ℕ
uuid_of text = if is_hyphenated text then (do
  time_low ← number_behind hex_digit_of 16 0 (take 8 text)
  time_mid ← number_behind hex_digit_of 16 time_low (take 4 (drop 9 text))
  version ← number_behind hex_digit_of 16 time_mid (take 4 (drop 14 text))
  clock ← number_behind hex_digit_of 16 version (take 4 (drop 19 text))
  number_behind hex_digit_of 16 clock (take 12 (drop 24 text))) else None
