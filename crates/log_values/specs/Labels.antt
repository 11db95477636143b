-- The labels of ENUM and SET.
use Rattle.std.specs.Prelude.{ℕ, zero, suc, ◌-◌, ◌/◌, ◌%◌, ◌==◌, Bool, if◌then◌else◌, nat_le, List, [], ◌∷◌, ◌++◌, length, slice_index_or}

-- ENUM: the label of a number from 1 on; 0 is the empty text
abbrev pub label_fits : List (List ℕ) → ℕ → Bool
label_fits labels n = nat_le n (length labels)

abbrev pub label_text : List (List ℕ) → ℕ → List ℕ
label_text labels n = if n == 0 then [] else slice_index_or labels (n - 1) []

-- one more label behind what is written of a SET: a comma stands between, where anything is written
abbrev pub with_label : List ℕ → List ℕ → List ℕ → List ℕ
with_label comma [] label = label
with_label comma (b ∷ written) label = (b ∷ written) ++ (comma ++ label)

-- SET (MariaDB's and MySQL's `Field_set::val_str`): the labels whose bits are 1, the lowest first, behind what is written
-- so far. So no comma stands behind an empty first label: of '', 'a' and 'b' the bits 7 are `a,b`, and of 'a', '' and 'b'
-- they are `a,,b`.
abbrev pub labels_text : List ℕ → List ℕ → List (List ℕ) → ℕ → List ℕ
labels_text comma written [] n = written
labels_text comma written (label ∷ labels) n = labels_text comma (if n % 2 == 1 then with_label comma written label else written) labels (n / 2)

-- what is left of a number without so many bits
unfoldable pub bits_left : ℕ → ℕ → ℕ
bits_left zero n = n
bits_left (suc more) n = bits_left more (n / 2)
