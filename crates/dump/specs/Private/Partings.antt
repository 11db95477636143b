-- What stands between the cells of a row.
use Rattle.std.specs.Prelude.{ℕ, Bool, true, false, List, [], ◌∷◌, ◌++◌, Option}
use Rattle.dump.specs.Cells.{cell, cells}

-- what stands before a cell: nothing before the first of a line, a tab before the others
abbrev pub parting : Bool → List ℕ
parting true = []
parting false = 9 ∷ []

-- the cells of a row that are left, of which this parts the first from those before
abbrev pub cells_left : List ℕ → List (Option (List ℕ)) → List ℕ
cells_left before [] = []
cells_left before (column ∷ others) = before ++ cell column ++ cells others
