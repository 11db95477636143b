-- Names of columns to their places: a table of the workflow file as a table of a plan.
use Rattle.std.specs.Prelude.{ℕ, ◌||◌, not, List, [], length, slice_get, Bool, Option, Some, None, Result, Ok, Err, find, position, if◌then◌else◌}
use Rattle.std.specs.List.{list_all, range_with_len}
use Rattle.std.specs.Option.{option_map_or, ok_or}
use Rattle.std.specs.Str.{bytes_eq}
use Rattle.vindex.specs.declared.vindexes.Vindex.{Vindex}
use Rattle.vindex.specs.declared.vindexes.Vindex.TheVariants.{Numeric, ReverseBits, Binary, BinaryMd5, Hash}
use Rattle.filter_text.specs.ColumnList.{has_column}
use Rattle.filter_rule.specs.Document.{TableSaid}
use Rattle.list_laws.specs.Outcome.{◌>>=◌, each}
use Rattle.filter_rule.specs.Faults.{Fault, no_such_column, key_type}
use Rattle.row_view.specs.FieldValue.{FieldValue}
use Rattle.filter_rule.specs.PlanTable.{TableValue}
use Rattle.filter_rule.specs.TypeNumbers.{is_whole_number, is_short_text, is_long_text}

-- a key column is a whole number or a short text
abbrev pub is_key_type : ℕ → Bool
is_key_type n = is_whole_number n || is_short_text n

-- a number vindex takes whole numbers, the others every type that has a name here
abbrev pub is_vindex_type : Vindex → ℕ → Bool
is_vindex_type Numeric n = is_whole_number n
is_vindex_type ReverseBits n = is_whole_number n
is_vindex_type Binary n = is_key_type n || is_long_text n
is_vindex_type BinaryMd5 n = is_key_type n || is_long_text n
is_vindex_type Hash n = is_whole_number n

-- the places of all columns, in their order
abbrev pub all_places : List FieldValue → List ℕ
all_places columns = range_with_len 0 (length columns)

-- the name of the column at a place
abbrev pub name_at : List FieldValue → ℕ → List ℕ
name_at columns place = option_map_or (λ column. column.name) (slice_get columns place) []

-- each column of a key is among those of these names
abbrev pub lists_key : List (List ℕ) → List FieldValue → List ℕ → Bool
lists_key names columns key = list_all (λ place. has_column (name_at columns place) names) key

-- the place of a table's column of a name
abbrev pub place_in : List ℕ → List FieldValue → List ℕ → Result ℕ Fault
place_in table columns name = ok_or (position (λ c. bytes_eq c.name name) columns) (no_such_column table name)

abbrev pub type_in : List FieldValue → List ℕ → ℕ
type_in columns name = option_map_or (λ c. c.type_number) (find (λ c. bytes_eq c.name name) columns) 0

-- a name of a key's columns whose type can't be in a key
abbrev pub unfit_key : List FieldValue → List (List ℕ) → Option (List ℕ)
unfit_key columns names = find (λ name. not (is_key_type (type_in columns name))) names

abbrev pub refuse_type : List ℕ → Option (List ℕ) → Result (Option (List ℕ)) Fault
refuse_type table None = Ok None
refuse_type table (Some name) = Err (key_type table name)

-- a vindex at its column's place
abbrev pub vindex_place : List ℕ → List FieldValue → Option (List ℕ × Vindex) → Result (Option (ℕ × Vindex)) Fault
vindex_place table columns None = Ok None
vindex_place table columns (Some v) = place_in table columns v.0 >>= λ place. Ok (Some (place, v.1))

-- a column that a vindex can take, by its name
abbrev pub vindex_type : List ℕ → List FieldValue → List ℕ → Vindex → Result (List ℕ) Fault
vindex_type table columns name vindex = if is_vindex_type vindex (type_in columns name) then Ok name else Err (key_type table name)

abbrev pub own_vindex_type : List ℕ → List FieldValue → Option (List ℕ × Vindex) → Result (Option (List ℕ)) Fault
own_vindex_type table columns None = Ok None
own_vindex_type table columns (Some v) = vindex_type table columns v.0 v.1 >>= λ name. Ok (Some name)

-- A table of a plan. First all columns are looked up, those of the key in key order and then the
-- vindex's; then their types are looked at in the same order. It keeps all its columns, as long as no rule
-- says otherwise.
unfoldable pub resolved : TableSaid → Result TableValue Fault
resolved t = do
  key ← each (place_in t.name t.columns) t.key
  vindex ← vindex_place t.name t.columns t.vindex
  key_fit ← refuse_type t.name (unfit_key t.columns t.key)
  vindex_fit ← own_vindex_type t.name t.columns t.vindex
  Ok (record { name = t.name; columns = t.columns; key = key; vindex = vindex; kept = all_places t.columns })
