-- The row of a key alone, as statements name it.
use Rattle.std.specs.Prelude.{ℕ, ◌+◌, true, List, [], ◌∷◌, ◌++◌, Option, codes}
use Rattle.row_view.specs.FieldValue.{FieldValue}
use Rattle.filter_rule.specs.PlanTable.{TableValue}
use Rattle.pk_copy.specs.KeyValue.{Part, number, bytes, KeyValue}
use Rattle.pk_copy.specs.Lastpk.{part_text}
use Rattle.vdiff_sql.specs.Columns.{listed, key_column, name_of}
use Rattle.vdiff_sql.specs.Literals.{hex_literal}

-- a number by its digits, a byte string by its bytes
abbrev pub part_literal : Part → List ℕ
part_literal (number value) = part_text (number value)
part_literal (bytes text) = hex_literal text

-- that a column of the key has a value
abbrev pub condition : Option FieldValue → Part → List ℕ
condition column part = name_of column ++ codes " = " ++ part_literal part

-- one for each part, where the first has place i in the key
abbrev pub conditions_from : TableValue → ℕ → List Part → List (List ℕ)
conditions_from table i [] = []
conditions_from table i (part ∷ parts) = condition (key_column table i) part ∷ conditions_from table (i + 1) parts

-- the row of a key alone, and the statement's end
abbrev pub where_text : TableValue → KeyValue → List ℕ
where_text table key = codes " WHERE " ++ listed (codes " AND ") true (conditions_from table 0 key.parts) ++ codes ";\n"
