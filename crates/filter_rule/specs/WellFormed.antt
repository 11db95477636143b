-- What is true of every plan that a workflow file says, and of all its plans together.
use Rattle.std.specs.Prelude.{◌≡◌, ℕ, ◌<◌, ◌≤◌, ◌^◌, List, Some, length, map, slice_get, IfSome, IsTrue, Bool}
use Rattle.std.specs.Option.{option_map_or}
use Rattle.std.specs.Str.{is_utf8}
use Rattle.row_view.specs.FieldValue.{FieldValue}
use Rattle.filter_rule.specs.PlanTable.{TableValue}
use Rattle.filter_rule.specs.PlanValue.{PlanValue, decision_at}
use Rattle.filter_rule.specs.Resolving.{is_key_type, is_vindex_type, all_places}
use Rattle.filter_rule.specs.declared.decision.Decision.{Decision}
use Rattle.filter_rule.specs.declared.decision.Decision.TheVariants.{NoRule, EveryRow, InRange}

-- no two places have the same
abbrev pub AreDistinct : {A : Type 0} → List A → Type 0
AreDistinct {A} xs = (i j : ℕ) (x : A) → slice_get xs i ≡ Some x → slice_get xs j ≡ Some x → i ≡ j

-- there are 1 to so many
abbrev pub AreUpTo : {A : Type 0} → ℕ → List A → Type 0
AreUpTo most xs = (1 ≤ length xs) × (length xs ≤ most)

-- the type of the column at a place
abbrev pub type_at : List FieldValue → ℕ → ℕ
type_at columns place = option_map_or (λ column. column.type_number) (slice_get columns place) 0

-- each place is that of a column
abbrev pub AreColumnPlaces : List FieldValue → List ℕ → Type 0
AreColumnPlaces columns places = (i place : ℕ) → slice_get places i ≡ Some place → place < length columns

-- a column of a type that fits stands at the place
pub record HasColumn (fits : ℕ → Bool) (columns : List FieldValue) (place : ℕ) : Type 0 where
  pub within : place < length columns
  pub fit : IsTrue (fits (type_at columns place))

-- a column's name is a text, and the number of its type has 32 bits
pub record IsColumnDef (column : FieldValue) : Type 0 where
  pub name_text : IsTrue (is_utf8 column.name)
  pub type_bits : column.type_number < 2 ^ 32

-- the list has it
abbrev pub Holds : {A : Type 0} → List A → A → Type 0
Holds xs x = (i : ℕ) × (slice_get xs i ≡ Some x)

-- columns that may be kept of a table: they are its own, none of them twice, and each key column is one
pub record AreKept (columns : List FieldValue) (key kept : List ℕ) : Type 0 where
  pub places : AreColumnPlaces columns kept
  pub apart : AreDistinct kept
  pub key_kept : (i place : ℕ) → slice_get key i ≡ Some place → Holds kept place

-- a table of a plan: its key's columns and its vindex's are there, and have types that a key and this
-- vindex can take; its key's columns are kept
pub record IsTable (table : TableValue) : Type 0 where
  pub name_text : IsTrue (is_utf8 table.name)
  pub column_count : AreUpTo 256 table.columns
  pub each_column : (i : ℕ) (column : FieldValue) → slice_get table.columns i ≡ Some column → IsColumnDef column
  pub column_names : AreDistinct (map (λ column. column.name) table.columns)
  pub key_count : AreUpTo 8 table.key
  pub key_places : AreDistinct table.key
  pub key_columns : (i place : ℕ) → slice_get table.key i ≡ Some place → HasColumn is_key_type table.columns place
  pub vindex_column : IfSome table.vindex (λ v. HasColumn (is_vindex_type v.1) table.columns v.0)
  pub kept_columns : AreKept table.columns table.key table.kept

-- the tables of a plan
pub record AreTables (tables : List TableValue) : Type 0 where
  pub count : AreUpTo 64 tables
  pub names : AreDistinct (map (λ table. table.name) tables)
  pub each_table : (t : ℕ) (table : TableValue) → slice_get tables t ≡ Some table → IsTable table

-- the column that a decision names is there, and has a type that its vindex can take; it keeps the table's
-- kept columns
abbrev pub FitsTable : TableValue → Decision → Type 0
FitsTable table NoRule = Unit {0}
FitsTable table (EveryRow kept) = kept ≡ table.kept
FitsTable table (InRange place vindex range kept) = HasColumn (is_vindex_type vindex) table.columns place × (kept ≡ table.kept)

-- a plan: its names are texts, its tables, and a decision for each of them
pub record IsPlan (plan : PlanValue) : Type 0 where
  pub keyspace_text : IsTrue (is_utf8 plan.keyspace)
  pub shard_text : IsTrue (is_utf8 plan.shard)
  pub tables : AreTables plan.tables
  pub decided : length plan.decisions ≡ length plan.tables
  pub filters : (t : ℕ) (decision : Decision) (table : TableValue) → slice_get plan.decisions t ≡ Some decision → slice_get plan.tables t ≡ Some table → FitsTable table decision

-- a table that no rule of any plan matches keeps all its columns
abbrev pub KeepUnmatched : List PlanValue → Type 0
KeepUnmatched plans =
    (t i : ℕ) (plan : PlanValue) (table : TableValue) → slice_get plans i ≡ Some plan → slice_get plan.tables t ≡ Some table
    → ((j : ℕ) (other : PlanValue) → slice_get plans j ≡ Some other → decision_at other t ≡ NoRule) → table.kept ≡ all_places table.columns

-- all plans of a file: 1 to 64, each for another shard, all over the same keyspace and tables
pub record ArePlans (plans : List PlanValue) : Type 0 where
  pub count : AreUpTo 64 plans
  pub shards : AreDistinct (map (λ plan. plan.shard) plans)
  pub each_plan : (i : ℕ) (plan : PlanValue) → slice_get plans i ≡ Some plan → IsPlan plan
  pub same : (i j : ℕ) (plan other : PlanValue) → slice_get plans i ≡ Some plan → slice_get plans j ≡ Some other → (plan.keyspace ≡ other.keyspace) × (plan.tables ≡ other.tables)
  pub unmatched : KeepUnmatched plans
