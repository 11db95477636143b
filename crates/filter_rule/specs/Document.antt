-- The workflow file as a typed document: what a JSON value says, or the fault of its shape.
use Rattle.std.specs.Prelude.{ℕ, ◌^◌, ◌==◌, ◌&&◌, ◌||◌, nat_lt, nat_le, not, List, [], ◌∷◌, ◌++◌, length, map, Bool, true, false, Option, Some, None, Result, Ok, Err, codes, if◌then◌else◌}
use Rattle.std.specs.List.{list_all, list_any}
use Rattle.std.specs.Option.{option_and_then, option_map, option_map_or, ok_or}
use Rattle.std.specs.Str.{bytes_eq, is_utf8}
use Rattle.serde_json.specs.Data.{Data, Items, no_items, item}
use Rattle.serde_json.specs.Find.{get, as_str, as_array, as_number, as_u64}
use Rattle.vindex.specs.KeyspaceId.{vindex_of_name}
use Rattle.vindex.specs.declared.vindexes.Vindex.{Vindex}
use Rattle.vindex.specs.declared.vindexes.Vindex.TheVariants.{Numeric, ReverseBits, Binary, BinaryMd5, Hash}
use Rattle.list_laws.specs.Outcome.{◌>>=◌, each}
use Rattle.filter_rule.specs.Faults.{Fault, shape}
use Rattle.row_view.specs.FieldValue.{FieldValue}
use Rattle.filter_rule.specs.TypeNumbers.{type_of_name}

-- a rule's `match` and `filter`, as texts, and whether the file says that it uses the vindex `hash`
pub record RuleSaid : Type 0 where
  pub matches : List ℕ
  pub filter : List ℕ
  pub uses_hash : Bool

-- a stream: its shard and its rules in order
pub record StreamSaid : Type 0 where
  pub shard : List ℕ
  pub rules : List RuleSaid

-- a table with the names of its key and vindex columns
pub record TableSaid : Type 0 where
  pub name : List ℕ
  pub columns : List FieldValue
  pub key : List (List ℕ)
  pub vindex : Option (List ℕ × Vindex)

-- the whole file, and whether it says that it uses no vindex beyond the four but `hash`
pub record DocumentSaid : Type 0 where
  pub keyspace : List ℕ
  pub tables : List TableSaid
  pub streams : List StreamSaid
  pub uses_no_other : Bool

-- ---- values and members

-- the values of a list
abbrev pub listed : Items → List Data
listed no_items = []
listed (item d ds) = d ∷ listed ds

-- what is there, or the fault of the shape
abbrev pub found : {A : Type 0} → Option A → Result A Fault
found o = ok_or o shape

-- the member of an object under a key
abbrev pub member_in : List ℕ → Data → Result Data Fault
member_in key d = found (get key d)

-- a text is UTF-8, as each text of a JSON value is
abbrev pub in_utf8 : List ℕ → Option (List ℕ)
in_utf8 s = if is_utf8 s then Some s else None

-- the text that a value is
abbrev pub text_of : Data → Result (List ℕ) Fault
text_of d = found (option_and_then in_utf8 (as_str d))

-- the values of the list that a value is
abbrev pub list_of : Data → Result (List Data) Fault
list_of d = found (option_map listed (as_array d))

-- a member that is a text
unfoldable pub text_in : List ℕ → Data → Result (List ℕ) Fault
text_in key d = member_in key d >>= text_of

-- a member that is a list
unfoldable pub list_in : List ℕ → Data → Result (List Data) Fault
list_in key d = member_in key d >>= list_of

-- a list of just two values
abbrev pub two_of : List Data → Result (Data × Data) Fault
two_of [] = Err shape
two_of (a ∷ []) = Err shape
two_of (a ∷ b ∷ []) = Ok (a, b)
two_of (a ∷ b ∷ c ∷ ds) = Err shape

-- a value that is a list of just two
unfoldable pub pair_of : Data → Result (Data × Data) Fault
pair_of d = list_of d >>= two_of

-- ---- vindexes beyond the four (this profile's own: the Vitess documents have no such member)

-- the values that the member `vindexes` lists: none where it isn't there, `None` where it is no list
unfoldable pub further_in : Data → Option (List Data)
further_in d = option_map_or (λ member. option_map listed (as_array member)) (get (codes "vindexes") d) (Some [])

-- the text `hash`
abbrev pub is_hash : Data → Bool
is_hash d = option_map_or (λ name. bytes_eq name (codes "hash")) (as_str d) false

-- the file says that it uses `hash`
abbrev pub uses_hash : Data → Bool
uses_hash d = option_map_or (λ names. list_any is_hash names) (further_in d) false

-- it says so of nothing else
abbrev pub uses_no_other : Data → Bool
uses_no_other d = option_map_or (λ names. list_all is_hash names) (further_in d) false

-- a vindex may be named where the file says that it uses it, and the four everywhere
abbrev pub may_name : Bool → Vindex → Bool
may_name hash Numeric = true
may_name hash ReverseBits = true
may_name hash Binary = true
may_name hash BinaryMd5 = true
may_name hash Hash = hash

-- the vindex of a name, if it may be named
abbrev pub vindex_named : Bool → List ℕ → Option Vindex
vindex_named hash name = option_and_then (λ vindex. if may_name hash vindex then Some vindex else None) (vindex_of_name name)

-- ---- names and types

-- no control character of ASCII
abbrev pub is_fit : ℕ → Bool
is_fit b = nat_le 32 b && not (b == 127)

-- 1 to 256 bytes, none of them a control character of ASCII
abbrev pub is_name : List ℕ → Bool
is_name s = nat_lt 0 (length s) && nat_le (length s) 256 && list_all is_fit s

-- a value that is a name
unfoldable pub name_of : Data → Result (List ℕ) Fault
name_of d = text_of d >>= λ s. if is_name s then Ok s else Err shape

-- a number below 2^32, as the number of a type is
abbrev pub in_32_bits : ℕ → Option ℕ
in_32_bits n = if nat_lt n (2 ^ 32) then Some n else None

-- a type by its name, or else by a whole number below 2^32
abbrev pub type_by : Option (List ℕ) → Data → Result ℕ Fault
type_by (Some name) d = found (type_of_name name)
type_by None d = found (option_and_then in_32_bits (option_and_then as_u64 (as_number d)))

-- a type by its name or its number
unfoldable pub type_said : Data → Result ℕ Fault
type_said d = type_by (as_str d) d

-- a column as a pair of its name and its type
unfoldable pub column_of : Data → Result FieldValue Fault
column_of d = do
  p ← pair_of d
  name ← name_of p.0
  number ← type_said p.1
  Ok (record { name = name; type_number = number })

-- a vindex as a pair of a column's name and its own
unfoldable pub vindex_of : Bool → Data → Result (List ℕ × Vindex) Fault
vindex_of hash d = do
  p ← pair_of d
  column ← name_of p.0
  name ← text_of p.1
  vindex ← found (vindex_named hash name)
  Ok (column, vindex)

-- no vindex where no member is
abbrev pub vindex_if : Bool → Option Data → Result (Option (List ℕ × Vindex)) Fault
vindex_if hash None = Ok None
vindex_if hash (Some d) = vindex_of hash d >>= λ v. Ok (Some v)

-- the vindex of a table, if it has one
unfoldable pub vindex_said : Bool → Data → Result (Option (List ℕ × Vindex)) Fault
vindex_said hash d = vindex_if hash (get (codes "vindex") d)

-- an absent filter is the empty text
abbrev pub filter_if : Option Data → Result (List ℕ) Fault
filter_if None = Ok []
filter_if (Some d) = text_of d

-- the filter of a rule
unfoldable pub filter_in : Data → Result (List ℕ) Fault
filter_in d = filter_if (get (codes "filter") d)

-- a rule: its `match`, and its `filter` if there is one
unfoldable pub rule_of : Bool → Data → Result RuleSaid Fault
rule_of hash d = do
  matches ← text_in (codes "match") d
  filter ← filter_in d
  Ok (record { matches = matches; filter = filter; uses_hash = hash })

-- a stream: its shard, and the rules of its filter
unfoldable pub stream_of : Bool → Data → Result StreamSaid Fault
stream_of hash d = do
  shard ← text_in (codes "shard") d
  filter ← member_in (codes "filter") d
  values ← list_in (codes "rules") filter
  rules ← each (rule_of hash) values
  Ok (record { shard = shard; rules = rules })

-- whether some text is equal to one before it, behind these
abbrev pub repeats : List (List ℕ) → List (List ℕ) → Bool
repeats before [] = false
repeats before (s ∷ ss) = list_any (λ t. bytes_eq s t) before || repeats (before ++ s ∷ []) ss

-- whether some text stands twice
abbrev pub has_twice : List (List ℕ) → Bool
has_twice ss = repeats [] ss

-- texts of which none stands twice
abbrev pub distinct : List (List ℕ) → Result (List (List ℕ)) Fault
distinct ss = if has_twice ss then Err shape else Ok ss

-- a member that is a list of values, each of which says something, under texts of which none stands
-- twice
unfoldable pub list_apart : {A : Type 0} → (A → List ℕ) → (Data → Result A Fault) → List ℕ → Data → Result (List A) Fault
list_apart name reads key d = do
  values ← list_in key d
  items ← each reads values
  names ← distinct (map name items)
  Ok items

-- a table: its name, its columns as pairs, the names of its key columns and its vindex, if it has one
unfoldable pub table_of : Bool → Data → Result TableSaid Fault
table_of hash d = do
  name_d ← member_in (codes "name") d
  name ← name_of name_d
  vindex ← vindex_said hash d
  columns ← list_apart (λ c. c.name) column_of (codes "columns") d
  key ← list_apart (λ n. n) name_of (codes "key") d
  Ok (record { name = name; columns = columns; key = key; vindex = vindex })

-- the whole file: its keyspace, tables and streams
unfoldable pub document_of : Data → Result DocumentSaid Fault
document_of d = do
  keyspace ← text_in (codes "keyspace") d
  tables ← list_apart (λ t. t.name) (table_of (uses_hash d)) (codes "tables") d
  streams ← list_apart (λ s. s.shard) (stream_of (uses_hash d)) (codes "streams") d
  Ok (record { keyspace = keyspace; tables = tables; streams = streams; uses_no_other = uses_no_other d })
