-- Rows of a table and of those behind it.
use Rattle.std.specs.Prelude.{◌≡◌, ℕ, ◌≤◌, ◌==◌, ⊤, true, false, [], ◌∷◌, if◌then◌else◌}
use Rattle.std.specs.List.{AllByRecursion}
use Rattle.pk_copy.specs.KeyValue.{KeyValue}
use Rattle.dump.specs.DumpRowsValue.{RowValue, DumpRowsValue}

-- no row is of a table before table t
abbrev pub AreFrom : ℕ → DumpRowsValue → Type 0
AreFrom t rows = AllByRecursion (λ row. t ≤ row.0.table) rows

-- the rows from the first on that isn't of table t
abbrev pub behind_table : ℕ → DumpRowsValue → DumpRowsValue
behind_table t [] = []
behind_table t (row ∷ rows) = if row.0.table == t then behind_table t rows else row ∷ rows

-- the first of these rows, if there is one, isn't of table t
abbrev pub IsOtherFirst : ℕ → DumpRowsValue → Type 0
IsOtherFirst t [] = ⊤
IsOtherFirst t (row ∷ rows) = (row.0.table == t) ≡ false

-- the first of these rows, which is of table t, was taken out
pub record IsTakenOf (t : ℕ) (old : DumpRowsValue) (row : RowValue) (new : DumpRowsValue) : Type 0 where
  pub key : KeyValue
  pub of_table : (key.table == t) ≡ true
  pub parts : old ≡ (key, row) ∷ new
