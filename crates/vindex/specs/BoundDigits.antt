-- The bytes that pairs of hexadecimal digits write, as the reader of a range walks them.
use Rattle.std.specs.Prelude.{ℕ, ◌+◌, ◌*◌, List, [], ◌∷◌, unwrap_or}
use Rattle.hex.specs.Hex.{hex_digit_value}

abbrev pub hex_value_of : ℕ → ℕ
hex_value_of c = unwrap_or (hex_digit_value c) 0

abbrev pub bytes_of_pairs : List ℕ → List ℕ
bytes_of_pairs [] = []
bytes_of_pairs (digit ∷ []) = []
bytes_of_pairs (high ∷ low ∷ rest) = (hex_value_of high * 16 + hex_value_of low) ∷ bytes_of_pairs rest
