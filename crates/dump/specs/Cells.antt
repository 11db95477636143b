-- The text of a row's columns (this profile).
use Rattle.std.specs.Prelude.{ℕ, List, ◌∷◌, ◌++◌, Option, None, Some, codes}
use Rattle.std.specs.List.{flat_map}
use Rattle.hex.specs.Hex.{encode_lower}

-- a cell: `N` for NULL, else `x` and the value in lower case hexadecimal
abbrev pub cell : Option (List ℕ) → List ℕ
cell None = codes "N"
cell (Some value) = codes "x" ++ encode_lower value

-- cells, each behind a tab
abbrev pub cells : List (Option (List ℕ)) → List ℕ
cells columns = flat_map (λ column. 9 ∷ cell column) columns
