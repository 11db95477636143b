-- The key of a row: the number of its table, and the values of the table's key columns in key order (this
-- profile).
use Rattle.std.specs.Prelude.{◌≡◌, ℕ, List, map, Any, Bool, Option, Some, IsTrue, Result, Ok, Err, is_none, if◌then◌else◌}
use Rattle.std.specs.List.{list_any, filter_map}
use Rattle.std.specs.Option.{option_map, option_and_then}
use Rattle.vindex.specs.NumberText.{number_of_text}
use Rattle.row_view.specs.FieldValue.{FieldValue}
use Rattle.filter_rule.specs.PlanValue.{PlanValue, columns_of, key_columns_of, column_at}
use Rattle.filter_rule.specs.TypeNumbers.{is_whole_number}
use Rattle.filter_rule.specs.WellFormed.{type_at}
use Rattle.pk_copy.specs.KeyValue.{Part, number, bytes, KeyValue}
use Rattle.pk_copy.specs.declared.fault.KeyFault.{KeyFault}
use Rattle.pk_copy.specs.declared.fault.KeyFault.TheVariants.{NullKey, BadKey}

-- what a row holds in a key column: the column's type, and its value, `None` for NULL
pub record KeyCell : Type 0 where
  pub type_number : ℕ
  pub value : Option (List ℕ)

-- what a row holds in the column at a place
abbrev pub cell_at : List FieldValue → List (Option (List ℕ)) → ℕ → KeyCell
cell_at columns row place = record { type_number = type_at columns place; value = column_at row place }

-- what a row of a table holds in the key columns, in key order
abbrev pub key_cells : PlanValue → ℕ → List (Option (List ℕ)) → List KeyCell
key_cells plan t row = map (cell_at (columns_of plan t) row) (key_columns_of plan t)

-- a whole-number column's text as its number, if it is one's; another column's bytes
abbrev pub part_of_text : ℕ → List ℕ → Option Part
part_of_text type_number text =
    if is_whole_number type_number then option_map number (number_of_text text) else Some (bytes text)

-- the part that a cell gives the key; NULL gives none
abbrev pub key_part_of : KeyCell → Option Part
key_part_of cell = option_and_then (part_of_text cell.type_number) cell.value

abbrev pub is_null : KeyCell → Bool
is_null cell = is_none cell.value

abbrev pub has_no_part : KeyCell → Bool
has_no_part cell = is_none (key_part_of cell)

-- the key of table t with these cells: refused where any is NULL, else where any holds no number text that
-- should
abbrev pub key_in : ℕ → List KeyCell → Result KeyValue KeyFault
key_in t cells =
    if list_any is_null cells then Err NullKey else
    if list_any has_no_part cells then Err BadKey else
    Ok (record { table = t; parts = filter_map key_part_of cells })

-- the key of a row of table t, or why it has none
abbrev pub key_of : PlanValue → ℕ → List (Option (List ℕ)) → Result KeyValue KeyFault
key_of plan t row = key_in t (key_cells plan t row)

-- ---- the same as relations

-- a key column is NULL
abbrev pub HoldsNull : List KeyCell → Type 0
HoldsNull = Any (λ cell. IsTrue (is_null cell))

-- a key column gives no part: it is NULL, or it has whole numbers and holds no number text
abbrev pub LacksPart : List KeyCell → Type 0
LacksPart = Any (λ cell. IsTrue (has_no_part cell))

-- the key is of table t, and has each cell's part in order
pub record IsKeyOf (t : ℕ) (cells : List KeyCell) (key : KeyValue) : Type 0 where
  pub table : key.table ≡ t
  pub parts : map Some key.parts ≡ map key_part_of cells
