-- What a workflow file says: tables with their columns and keys, and streams with their rules (this profile, after the Vitess
-- filter rules). A value's members are told by `get`, `as_str` .. of serde_json.
use Rattle.std.specs.Prelude.{◌≡◌, ◌⊎◌, ◌||◌, ℕ, List, [], ◌∷◌, Bool, Option, Some, None, MatchOption, codes, find, position}
use Rattle.std.specs.Option.{option_and_then}
use Rattle.std.specs.Str.{bytes_eq}
use Rattle.serde_json.specs.Data.{Data, Items}
use Rattle.serde_json.specs.Find.{get, as_str, as_array, as_number, as_u64}
use Rattle.serde_json.specs.Read.{read}
use Rattle.vindex.specs.KeyspaceId.{vindex_of_name}
use Rattle.vindex.specs.declared.vindexes.Vindex.{Vindex}
use Rattle.row_view.specs.FieldValue.{FieldValue}
use Rattle.filter_text.specs.FilterText.{RowsSaid, every_row, in_own_range, in_range_of}
use Rattle.filter_rule.specs.Document.{listed}
use Rattle.filter_rule.specs.PlanTable.{TableValue}
use Rattle.filter_rule.specs.PlanValue.{PlanValue}
use Rattle.filter_rule.specs.Resolving.{all_places}
use Rattle.filter_rule.specs.TypeNumbers.{type_of_name}
use Rattle.filter_rule.specs.declared.decision.Decision.{Decision}
use Rattle.filter_rule.specs.declared.decision.Decision.TheVariants.{NoRule, EveryRow, InRange}
use Rattle.run_says.specs.Wire.{EachIs}
use Rattle.run_says.specs.Rules.{Filter, SaysFilter}

-- ---- members

-- the member of a key is a text
abbrev pub HasText : List ℕ → Data → List ℕ → Type 0
HasText key d text = option_and_then as_str (get key d) ≡ Some text

-- the member of a key is a list, whose values say these in order
abbrev pub HasEach : {A : Type 0} → List ℕ → Data → (Data → A → Type 0) → List A → Type 0
HasEach key d SaysOne items = (values : Items) × (option_and_then as_array (get key d) ≡ Some values) × EachIs SaysOne (listed values) items

-- a value is a list of two
abbrev pub IsPair : Data → Data → Data → Type 0
IsPair d one other = (values : Items) × (as_array d ≡ Some values) × (listed values ≡ one ∷ other ∷ [])

-- ---- tables

-- a type, by its name or its number
abbrev pub SaysType : Data → ℕ → Type 0
SaysType d n = (option_and_then type_of_name (as_str d) ≡ Some n) ⊎ (option_and_then as_u64 (as_number d) ≡ Some n)

-- a column: its name and its type
abbrev pub SaysColumn : Data → FieldValue → Type 0
SaysColumn d column = (name type : Data) × IsPair d name type × (as_str name ≡ Some column.name) × SaysType type column.type_number

-- the place of the column of a name
abbrev pub place_of : List FieldValue → List ℕ → Option ℕ
place_of columns name = position (λ column. bytes_eq column.name name) columns

-- a column by its name, as its place
abbrev pub SaysPlace : List FieldValue → Data → ℕ → Type 0
SaysPlace columns d place = option_and_then (place_of columns) (as_str d) ≡ Some place

-- a vindex: its column and its name
abbrev pub SaysVindex : List FieldValue → Option Data → Option (ℕ × Vindex) → Type 0
SaysVindex columns None vindex = vindex ≡ None
SaysVindex columns (Some d) vindex = (column name : Data) × (place : ℕ) × (by : Vindex) × IsPair d column name × SaysPlace columns column place × (option_and_then vindex_of_name (as_str name) ≡ Some by) × (vindex ≡ Some (place, by))

-- a table, but for the columns that are kept of it
pub record SaysTable (d : Data) (table : TableValue) : Type 0 where
  pub name : HasText (codes "name") d table.name
  pub columns : HasEach (codes "columns") d SaysColumn table.columns
  pub key : HasEach (codes "key") d (SaysPlace table.columns) table.key
  pub vindex : SaysVindex table.columns (get (codes "vindex") d) table.vindex

-- ---- rules

-- a rule: the table that it matches by its name, or `/.*` for every one, and what its filter says; an absent filter is empty
pub record Rule : Type 0 where
  pub matches : List ℕ
  pub said : Filter

abbrev pub SaysMember : Option Data → Filter → Type 0
SaysMember None said = SaysFilter [] said
SaysMember (Some d) said = (text : List ℕ) × (as_str d ≡ Some text) × SaysFilter text said

abbrev pub SaysRule : Data → Rule → Type 0
SaysRule d rule = HasText (codes "match") d rule.matches × SaysMember (get (codes "filter") d) rule.said

abbrev pub matches : List ℕ → Rule → Bool
matches table rule = bytes_eq rule.matches (codes "/.*") || bytes_eq table rule.matches

-- the columns that a filter keeps: those that it lists, or all
abbrev pub AreKept : List FieldValue → Option (List (List ℕ)) → List ℕ → Type 0
AreKept columns None kept = kept ≡ all_places columns
AreKept columns (Some names) kept = EachIs (λ name place. place_of columns name ≡ Some place) names kept

-- which rows pass: every one, those in a range under the table's own vindex, or those in one under a vindex of a column
abbrev pub Decides : TableValue → RowsSaid → Decision → Type 0
Decides table every_row decision = decision ≡ EveryRow table.kept
Decides table (in_own_range range) decision = (place : ℕ) × (vindex : Vindex) × (table.vindex ≡ Some (place, vindex)) × (decision ≡ InRange place vindex range table.kept)
Decides table (in_range_of column vindex range) decision = (place : ℕ) × (place_of table.columns column ≡ Some place) × (decision ≡ InRange place vindex range table.kept)

-- the first rule that matches a table decides it
abbrev pub IsByFirst : List Rule → TableValue → Decision → Type 0
IsByFirst rules table decision = MatchOption (find (matches table.name) rules) (decision ≡ NoRule) (λ rule. AreKept table.columns rule.said.columns table.kept × Decides table rule.said.rows decision)

-- ---- the file

-- a stream's plan: its shard, and what its rules decide of each table
pub record SaysStream (keyspace : List ℕ) (tables : List TableValue) (d : Data) (plan : PlanValue) : Type 0 where
  pub keyspace_is : plan.keyspace ≡ keyspace
  pub tables_are : plan.tables ≡ tables
  pub shard : HasText (codes "shard") d plan.shard
  pub filter : Data
  pub there : get (codes "filter") d ≡ Some filter
  pub rules : List Rule
  pub rules_said : HasEach (codes "rules") filter SaysRule rules
  pub decided : EachIs (IsByFirst rules) tables plan.decisions

-- the file is JSON, and says a plan for each stream, over one keyspace and the same tables
pub record SaysPlans (text : List ℕ) (plans : List PlanValue) : Type 0 where
  pub value : Data
  pub json : read text ≡ Some value
  pub keyspace : List ℕ
  pub keyspace_said : HasText (codes "keyspace") value keyspace
  pub tables : List TableValue
  pub tables_said : HasEach (codes "tables") value SaysTable tables
  pub streams_said : HasEach (codes "streams") value (SaysStream keyspace tables) plans
