-- The columns of a table, and the values of a row, as statements name them.
use Rattle.std.specs.Prelude.{ℕ, ◌+◌, Bool, false, List, [], ◌∷◌, ◌++◌, map, Option, slice_get, if◌then◌else◌}
use Rattle.std.specs.Option.{option_map_or, option_and_then}
use Rattle.row_view.specs.FieldValue.{FieldValue}
use Rattle.row_view.specs.Row.{RowValue}
use Rattle.filter_rule.specs.PlanTable.{TableValue}
use Rattle.vdiff_sql.specs.Literals.{quoted_name, literal}

-- ---- lists

-- what stands before a text of a list: nothing before the first one
abbrev pub parting : Bool → List ℕ → List ℕ
parting first between = if first then [] else between

-- texts with this between each two, or before each where the first isn't among them
abbrev pub listed : List ℕ → Bool → List (List ℕ) → List ℕ
listed between first [] = []
listed between first (text ∷ others) = parting first between ++ text ++ listed between false others

-- ---- columns

-- the column of a table that has place i in its rows, and the one that has place i in its key
abbrev pub row_column : TableValue → ℕ → Option FieldValue
row_column table i = option_and_then (λ place. slice_get table.columns place) (slice_get table.kept i)

abbrev pub key_column : TableValue → ℕ → Option FieldValue
key_column table i = option_and_then (λ place. slice_get table.columns place) (slice_get table.key i)

abbrev pub name_of : Option FieldValue → List ℕ
name_of column = quoted_name (option_map_or (λ c. c.name) column [])

abbrev pub type_of : Option FieldValue → ℕ
type_of column = option_map_or (λ c. c.type_number) column 0

-- ---- a row

-- the names of a row's columns
abbrev pub row_names : TableValue → List (List ℕ)
row_names table = map (λ place. name_of (slice_get table.columns place)) table.kept

-- its values, where the first has place i in the row
abbrev pub row_literals : TableValue → ℕ → RowValue → List (List ℕ)
row_literals table i [] = []
row_literals table i (value ∷ row) = literal (type_of (row_column table i)) value ∷ row_literals table (i + 1) row
