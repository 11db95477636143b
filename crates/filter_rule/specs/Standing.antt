-- What stands in a workflow file that is refused, by its fault.
use Rattle.std.specs.Prelude.{◌≡◌, ◌≢◌, ◌⊎◌, ℕ, ◌<◌, List, Bool, false, Some, None, Ok, length, slice_get}
use Rattle.serde_json.specs.Data.{Data}
use Rattle.vindex.specs.Bounds.{Bounds}
use Rattle.vindex.specs.declared.vindexes.Vindex.{Vindex}
use Rattle.filter_text.specs.ColumnList.{has_column}
use Rattle.filter_text.specs.FilterText.{in_own_range, in_range_of}
use Rattle.filter_rule.specs.Document.{RuleSaid, StreamSaid, TableSaid, DocumentSaid, document_of}
use Rattle.filter_rule.specs.Faults.{Fault, json, shape, limit, no_such_column, key_type, bad_rule, columns_differ}
use Rattle.filter_rule.specs.FirstRule.{first_match, document_in}
use Rattle.row_view.specs.FieldValue.{FieldValue}
use Rattle.filter_rule.specs.PlanTable.{TableValue}
use Rattle.filter_rule.specs.Reading.{IsNoJson, json_of}
use Rattle.filter_rule.specs.Resolving.{is_key_type, is_vindex_type, resolved}
use Rattle.filter_rule.specs.Rules.{RuleForm, form_of, kept_by}

-- a table of the document
abbrev pub HasTable : DocumentSaid → TableSaid → Type 0
HasTable document table = (i : ℕ) × (slice_get document.tables i ≡ Some table)

-- the table's key names the column
abbrev pub IsInKey : TableSaid → List ℕ → Type 0
IsInKey table column = (i : ℕ) × (slice_get table.key i ≡ Some column)

-- no column has the name
abbrev pub HasNoColumn : List FieldValue → List ℕ → Type 0
HasNoColumn columns name = (i : ℕ) (column : FieldValue) → slice_get columns i ≡ Some column → column.name ≢ name

-- a column has the name, and a type that doesn't fit
pub record HasUnfit (fits : ℕ → Bool) (columns : List FieldValue) (name : List ℕ) : Type 0 where
  pub place : ℕ
  pub column : FieldValue
  pub stands : slice_get columns place ≡ Some column
  pub named : column.name ≡ name
  pub unfit : fits column.type_number ≡ false

-- a rule has a form, and is the first of its stream that matches the table
pub record IsFirstFor (document : DocumentSaid) (stream rule : ℕ) (table : List ℕ) (form : RuleForm) : Type 0 where
  pub said : StreamSaid
  pub stands : slice_get document.streams stream ≡ Some said
  pub text : RuleSaid
  pub first : first_match 0 said.rules table ≡ Some (rule, text)
  pub formed : form_of stream rule text ≡ Ok form

-- the rule lists columns, and this one among them
abbrev pub Lists : RuleForm → List ℕ → Type 0
Lists form column = (names : List (List ℕ)) × (form.columns ≡ Some names) × (i : ℕ) × (slice_get names i ≡ Some column)

-- the rule lists columns, but not a column of the table's key
abbrev pub LeavesOutKey : RuleForm → TableSaid → Type 0
LeavesOutKey form table = (names : List (List ℕ)) × (form.columns ≡ Some names) × (i : ℕ) × (column : List ℕ) × (slice_get table.key i ≡ Some column) × (has_column column names ≡ false)

-- a key, a vindex or a first rule names a column that the table hasn't
pub data LacksColumn (document : DocumentSaid) (table column : List ℕ) : Type 0 where
  by_key : (said : TableSaid) → HasTable document said → said.name ≡ table → IsInKey said column → HasNoColumn said.columns column → LacksColumn document table column
  by_vindex : (said : TableSaid) (v : List ℕ × Vindex) → HasTable document said → said.name ≡ table → said.vindex ≡ Some v → v.0 ≡ column → HasNoColumn said.columns column → LacksColumn document table column
  by_rule : (said : TableSaid) (stream rule : ℕ) (form : RuleForm) (vindex : Vindex) (range : Bounds) → HasTable document said → said.name ≡ table → IsFirstFor document stream rule table form
      → form.rows ≡ in_range_of column vindex range → HasNoColumn said.columns column → LacksColumn document table column
  by_list : (said : TableSaid) (stream rule : ℕ) (form : RuleForm) → HasTable document said → said.name ≡ table → IsFirstFor document stream rule table form → Lists form column → HasNoColumn said.columns column
      → LacksColumn document table column

-- a key, a vindex or a first rule names a column of a type that it can't take
pub data HasUnfitColumn (document : DocumentSaid) (table column : List ℕ) : Type 0 where
  in_key : (said : TableSaid) → HasTable document said → said.name ≡ table → IsInKey said column → HasUnfit is_key_type said.columns column → HasUnfitColumn document table column
  under_vindex : (said : TableSaid) (v : List ℕ × Vindex) → HasTable document said → said.name ≡ table → said.vindex ≡ Some v → v.0 ≡ column → HasUnfit (is_vindex_type v.1) said.columns column → HasUnfitColumn document table column
  under_rule : (said : TableSaid) (stream rule : ℕ) (form : RuleForm) (vindex : Vindex) (range : Bounds) → HasTable document said → said.name ≡ table → IsFirstFor document stream rule table form
      → form.rows ≡ in_range_of column vindex range → HasUnfit (is_vindex_type vindex) said.columns column → HasUnfitColumn document table column

-- a rule has no form, or is the first to match a table and a key range alone where the table has no vindex,
-- or lists columns without each of its key
pub data HasBadRule (document : DocumentSaid) (stream rule : ℕ) : Type 0 where
  no_form : (said : StreamSaid) (text : RuleSaid) → slice_get document.streams stream ≡ Some said → slice_get said.rules rule ≡ Some text
      → ((form : RuleForm) → form_of stream rule text ≢ Ok form) → HasBadRule document stream rule
  no_vindex : (table : TableSaid) (form : RuleForm) (range : Bounds) → HasTable document table → IsFirstFor document stream rule table.name form
      → form.rows ≡ in_own_range range → table.vindex ≡ None → HasBadRule document stream rule
  key_left_out : (table : TableSaid) (form : RuleForm) → HasTable document table → IsFirstFor document stream rule table.name form → LeavesOutKey form table → HasBadRule document stream rule

-- a stream's first rule for a table keeps these columns of it
pub record KeepsOf (document : DocumentSaid) (table : List ℕ) (kept : List ℕ) : Type 0 where
  pub said : TableSaid
  pub there : HasTable document said
  pub named : said.name ≡ table
  pub resolved_as : TableValue
  pub is : resolved said ≡ Ok resolved_as
  pub stream : ℕ
  pub rule : ℕ
  pub form : RuleForm
  pub first : IsFirstFor document stream rule table form
  pub keeps : kept_by stream rule form.columns resolved_as ≡ Ok kept

-- the first rules of two streams keep different columns of a table
abbrev pub KeepDifferent : DocumentSaid → List ℕ → Type 0
KeepDifferent document table = (one : List ℕ) × (other : List ℕ) × KeepsOf document table one × KeepsOf document table other × (one ≢ other)

-- none, or more than so many
abbrev pub IsOutside : ℕ → ℕ → Type 0
IsOutside most n = (n ≡ 0) ⊎ (most < n)

-- a count is past its limits, or the file says that it uses a vindex that isn't known
pub data IsPastLimit (document : DocumentSaid) : Type 0 where
  streams_past : IsOutside 64 (length document.streams) → IsPastLimit document
  tables_past : IsOutside 64 (length document.tables) → IsPastLimit document
  columns_past : (table : TableSaid) → HasTable document table → IsOutside 256 (length table.columns) → IsPastLimit document
  key_past : (table : TableSaid) → HasTable document table → IsOutside 8 (length table.key) → IsPastLimit document
  vindexes_past : document.uses_no_other ≡ false → IsPastLimit document

-- some document is what the text says, and this stands in it
abbrev pub SaysSuch : List ℕ → (DocumentSaid → Type 0) → Type 0
SaysSuch text Stands = (document : DocumentSaid) × (document_in text ≡ Ok document) × Stands document

-- the text is JSON, and no document is what it says
abbrev pub SaysNone : List ℕ → Type 0
SaysNone text = (value : Data) × (json_of text ≡ Ok value) × ((document : DocumentSaid) → document_of value ≢ Ok document)

-- what a fault says of the file
abbrev pub Stands : List ℕ → Fault → Type 0
Stands text json = IsNoJson text
Stands text shape = SaysNone text
Stands text limit = SaysSuch text IsPastLimit
Stands text (no_such_column table column) = SaysSuch text (λ document. LacksColumn document table column)
Stands text (key_type table column) = SaysSuch text (λ document. HasUnfitColumn document table column)
Stands text (bad_rule stream rule) = SaysSuch text (λ document. HasBadRule document stream rule)
Stands text (columns_differ table) = SaysSuch text (λ document. KeepDifferent document table)

-- no fault of the workflow's rules stands in the file
abbrev pub IsFaultless : List ℕ → Type 0
IsFaultless text = (fault : Fault) → ¬ Stands text fault
