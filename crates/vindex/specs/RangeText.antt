-- The text of a key range (the Vitess documents on key ranges): `start-end`, each side an even
-- number of hexadecimal digits of either case, or empty where the range is open. `0` is `-`.
use Rattle.std.specs.Prelude.{◌≡◌, ◌≢◌, ℕ, ◌==◌, ◌⊎◌, Bool, IsTrue, List, ◌∷◌, ◌++◌, Ok, Option, None, Some, if◌then◌else◌, codes}
use Rattle.std.specs.List.{before_first, after_first, list_any}
use Rattle.std.specs.Result.{result_ok}
use Rattle.std.specs.Str.{bytes_eq}
use Rattle.hex.specs.Hex.{decode_of}
use Rattle.vindex.specs.Bounds.{Bounds, bounds_of, whole, is_ordered}

-- the bytes that a bound's hexadecimal digits write
abbrev pub bytes_of_hex : List ℕ → Option (List ℕ)
bytes_of_hex digits = result_ok (decode_of digits)

-- the range between two bounds, if it starts below its end
abbrev pub range_between : Option (List ℕ) → Option (List ℕ) → Option Bounds
range_between None end = None
range_between (Some start) None = None
range_between (Some start) (Some end) = if is_ordered (bounds_of start end) then Some (bounds_of start end) else None

abbrev pub is_hyphen : ℕ → Bool
is_hyphen byte = byte == 45

-- the range that a text writes
unfoldable pub key_range_of_text : List ℕ → Option Bounds
key_range_of_text text =
    if bytes_eq text (codes "0") then Some whole
    else if list_any is_hyphen text then
    range_between (bytes_of_hex (before_first is_hyphen text)) (bytes_of_hex (after_first is_hyphen text))
    else None

-- a range is written, and not the whole one: it has a bound
abbrev pub IsBounded : Option Bounds → Type 0
IsBounded None = ⊥
IsBounded (Some bounds) = bounds ≢ whole

-- The text is a hyphen between the hexadecimal digits of two bounds, and the range is the one between
-- these bounds, which starts below its end.
pub record WritesBounds (text : List ℕ) (bounds : Bounds) : Type 0 where
  pub first : List ℕ
  pub last : List ℕ
  pub start : List ℕ
  pub end : List ℕ
  pub parts : text ≡ first ++ 45 ∷ last
  pub start_digits : decode_of first ≡ Ok start
  pub end_digits : decode_of last ≡ Ok end
  pub ordered : IsTrue (is_ordered (bounds_of start end))
  pub between : bounds ≡ bounds_of start end

-- the text writes the range
abbrev pub IsRangeText : List ℕ → Bounds → Type 0
IsRangeText text bounds = ((text ≡ codes "0") × (bounds ≡ whole)) ⊎ WritesBounds text bounds
