-- The key of the last row that was copied, as a row of just the key columns in key order
-- (`binlogdata.proto`, VStreamRowsResponse, lastpk).
use Rattle.std.specs.Prelude.{◌≡◌, ℕ, ◌<◌, length, List, [], ◌∷◌, map, Option, Some, Result, Ok}
use Rattle.vindex.specs.NumberText.{shortest_text}
use Rattle.row_view.specs.FieldValue.{FieldValue}
use Rattle.filter_rule.specs.PlanValue.{PlanValue, columns_of, key_columns_of}
use Rattle.filter_rule.specs.WellFormed.{type_at}
use Rattle.pk_copy.specs.declared.fault.KeyFault.{KeyFault}
use Rattle.pk_copy.specs.KeyValue.{Part, number, bytes, KeyValue, AreParts}
use Rattle.pk_copy.specs.KeyOf.{KeyCell, key_in, key_of}

-- ---- a key as a row

-- the text of a part: a number's shortest decimal text
abbrev pub part_text : Part → List ℕ
part_text (number value) = shortest_text value
part_text (bytes text) = text

-- the parts of a key as the columns of a row, in key order
abbrev pub lastpk_of : KeyValue → List (Option (List ℕ))
lastpk_of key = map (λ part. Some (part_text part)) key.parts

-- ---- a row as a key

-- what a column at a place of the table holds
abbrev pub key_cell : List FieldValue → ℕ → Option (List ℕ) → KeyCell
key_cell columns place value = record { type_number = type_at columns place; value = value }

-- what a row of just the columns at these places holds in them
abbrev pub lastpk_cells : List FieldValue → List ℕ → List (Option (List ℕ)) → List KeyCell
lastpk_cells columns places [] = []
lastpk_cells columns [] (value ∷ row) = []
lastpk_cells columns (place ∷ places) (value ∷ row) = key_cell columns place value ∷ lastpk_cells columns places row

-- the cells of a row of just the key columns of a table
abbrev pub last_cells : PlanValue → ℕ → List (Option (List ℕ)) → List KeyCell
last_cells plan t row = lastpk_cells (columns_of plan t) (key_columns_of plan t) row

-- the key of table t that such a row is, or why it is none
abbrev pub key_of_lastpk : PlanValue → ℕ → List (Option (List ℕ)) → Result KeyValue KeyFault
key_of_lastpk plan t row = key_in t (last_cells plan t row)

-- ---- the one undoes the other

-- the key of some row of a table, as a row, is read as this key
abbrev pub LastpksAreReadAgain : Type 0
LastpksAreReadAgain = (plan : PlanValue) (t : ℕ) (row : List (Option (List ℕ))) (key : KeyValue)
    → AreParts key.parts → key_of plan t row ≡ Ok key → key_of_lastpk plan t (lastpk_of key) ≡ Ok key

-- ---- keys of a table

-- the key is one of a table of the plan: it has a part for each key column, and its row is read as it
pub record IsTableKey (plan : PlanValue) (key : KeyValue) : Type 0 where
  pub table : key.table < length plan.tables
  pub count : length key.parts ≡ length (key_columns_of plan key.table)
  pub read : key_of_lastpk plan key.table (lastpk_of key) ≡ Ok key

-- the key of a row of a table is one of the table
abbrev pub KeysOfRowsAreTableKeys : Type 0
KeysOfRowsAreTableKeys = (plan : PlanValue) (t : ℕ) (row : List (Option (List ℕ))) (key : KeyValue)
    → t < length plan.tables → AreParts key.parts → key_of plan t row ≡ Ok key → IsTableKey plan key

-- the key that a row of just the key columns is read as is one of the table
abbrev pub KeysReadAreTableKeys : Type 0
KeysReadAreTableKeys = (plan : PlanValue) (t : ℕ) (row : List (Option (List ℕ))) (key : KeyValue)
    → t < length plan.tables → length row ≡ length (key_columns_of plan t) → AreParts key.parts → key_of_lastpk plan t row ≡ Ok key → IsTableKey plan key
