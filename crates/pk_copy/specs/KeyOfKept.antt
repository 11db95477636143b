-- The key of a row of the columns that are kept of its table (this profile).
use Rattle.std.specs.Prelude.{◌≡◌, ℕ, ◌<◌, ◌==◌, List, map, length, position, slice_get, unwrap_or, Some, Result}
use Rattle.row_view.specs.FieldValue.{FieldValue}
use Rattle.filter_rule.specs.PlanValue.{PlanValue, columns_of, key_columns_of, kept_columns_of, column_at}
use Rattle.filter_rule.specs.WellFormed.{type_at, IsPlan}
use Rattle.row_view.specs.Picked.{picked}
use Rattle.row_view.specs.Row.{RowValue}
use Rattle.pk_copy.specs.KeyValue.{KeyValue}
use Rattle.pk_copy.specs.KeyOf.{KeyCell, key_in, key_of}
use Rattle.pk_copy.specs.declared.fault.KeyFault.{KeyFault}

-- where among the kept columns the column at a place of the table stands; behind all, where it isn't kept
unfoldable pub kept_place : List ℕ → ℕ → ℕ
kept_place kept place = unwrap_or (position (λ column. column == place) kept) (length kept)

-- what a row of kept columns holds in the column at a place of the table
abbrev pub kept_cell : List FieldValue → List ℕ → RowValue → ℕ → KeyCell
kept_cell columns kept row place = record { type_number = type_at columns place; value = column_at row (kept_place kept place) }

-- the key of a row of the kept columns of table t, or why it has none
abbrev pub key_of_kept : PlanValue → ℕ → RowValue → Result KeyValue KeyFault
key_of_kept plan t row = key_in t (map (kept_cell (columns_of plan t) (kept_columns_of plan t) row) (key_columns_of plan t))

-- the columns at these places are kept
abbrev pub ArePlacesKept : List ℕ → List ℕ → Type 0
ArePlacesKept kept places = (i place : ℕ) → slice_get places i ≡ Some place → kept_place kept place < length kept

-- the key of a row is the key of its kept columns
abbrev pub KeysAreKept : Type 0
KeysAreKept = (plan : PlanValue) (t : ℕ) (row : RowValue) → IsPlan plan → t < length plan.tables → key_of_kept plan t (picked (kept_columns_of plan t) row) ≡ key_of plan t row
