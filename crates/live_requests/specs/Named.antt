-- The text of a key, as a request names it (this profile).
use Rattle.std.specs.Prelude.{◌≡◌, ℕ, ◌==◌, Bool, List, [], ◌∷◌, Option, None, Some, Ok, length, map, if◌then◌else◌}
use Rattle.std.specs.List.{slice_split}
use Rattle.std.specs.Option.{option_and_then, option_map}
use Rattle.std.specs.Result.{result_ok}
use Rattle.hex.specs.Hex.{decode_of}
use Rattle.filter_rule.specs.PlanValue.{PlanValue, key_columns_of}
use Rattle.pk_copy.specs.KeyValue.{KeyValue}
use Rattle.pk_copy.specs.Lastpk.{key_of_lastpk}

abbrev pub is_comma : ℕ → Bool
is_comma byte = byte == 44

-- the value of a cell that isn't NULL: `x` and hexadecimal digits in pairs
abbrev pub value_of : List ℕ → Option (List ℕ)
value_of [] = None
value_of (byte ∷ digits) = if byte == 120 then result_ok (decode_of digits) else None

-- the values of cells, where each has one
abbrev pub values_in : List (List ℕ) → Option (List (List ℕ))
values_in [] = Some []
values_in (cell ∷ cells) = option_and_then (λ value. option_map (λ values. value ∷ values) (values_in cells)) (value_of cell)

-- those of cells that are parted by commas
abbrev pub values_of : List ℕ → Option (List (List ℕ))
values_of text = values_in (slice_split is_comma text)

-- The text is that of a key of table t: a cell for each of its key columns, in key order, which are read as the key.
pub record IsKeyText (plan : PlanValue) (t : ℕ) (text : List ℕ) (key : KeyValue) : Type 0 where
  pub values : List (List ℕ)
  pub cells : values_of text ≡ Some values
  pub count : length values ≡ length (key_columns_of plan t)
  pub read : key_of_lastpk plan t (map Some values) ≡ Ok key
