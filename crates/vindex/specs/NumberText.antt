-- Numbers as a row carries them: an optional `-` and one or more decimal digits, in value from -2^63
-- to 2^64 - 1. Leading zeros are allowed, and `-0` is 0 (this profile).
use Rattle.std.specs.Prelude.{◌≡◌, ℕ, ◌+◌, ◌^◌, ◌<◌, ◌≤◌, ◌==◌, ◌&&◌, nat_lt, List, [], ◌∷◌, length, Option, None, Some, if◌then◌else◌, ℤ, pos, negsuc, neg_ℤ}
use Rattle.std.specs.Char.{is_ascii_digit}
use Rattle.std.specs.Fmt.{signed_decimal}
use Rattle.std.specs.List.{list_all}
use Rattle.std.specs.Option.{option_map}
use Rattle.std.specs.Str.Parse.{digits_value}

-- an integer from -2^63 to 2^64 - 1, `negsuc n` being -(n + 1)
abbrev pub IsNumber : ℤ → Type 0
IsNumber (pos n) = n < 2 ^ 64
IsNumber (negsuc n) = n < 2 ^ 63

-- what one or more decimal digits write, if it is below a limit
abbrev pub decimal_below : ℕ → List ℕ → Option ℕ
decimal_below limit [] = None
decimal_below limit (digit ∷ digits) =
    if list_all is_ascii_digit (digit ∷ digits) && nat_lt (digits_value 10 (digit ∷ digits)) limit
    then Some (digits_value 10 (digit ∷ digits))
    else None

-- the number that a text writes, a `-` being the byte 45
unfoldable pub number_of_text : List ℕ → Option ℤ
number_of_text [] = None
number_of_text (byte ∷ rest) =
    if byte == 45 then option_map (λ n. neg_ℤ (pos n)) (decimal_below (2 ^ 63 + 1) rest)
    else option_map pos (decimal_below (2 ^ 64) (byte ∷ rest))

-- the shortest text that writes a number: its digits without zeros in front, behind a `-` where it is
-- below 0
abbrev pub shortest_text : ℤ → List ℕ
shortest_text = signed_decimal

-- every text of a number is as long as this one at least
abbrev pub IsShortest : ℤ → List ℕ → Type 0
IsShortest number text = (other : List ℕ) → number_of_text other ≡ Some number → length text ≤ length other
