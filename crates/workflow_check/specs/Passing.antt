-- Which rows of a table a stream passes, and which columns of it it keeps, as the file says it (this profile).
use Rattle.std.specs.Prelude.{ℕ, ◌+◌, List, [], ◌∷◌, ◌++◌, codes, decimal, Option, None, Some, option_and_then, option_map}
use Rattle.std.specs.List.{flat_map}
use Rattle.serde_json.specs.Data.{Data}
use Rattle.shown_text.specs.Shown.{printable, shown}
use Rattle.hex.specs.Hex.{encode_lower}
use Rattle.vindex.specs.Bounds.{Bounds}
use Rattle.vindex.specs.KeyspaceId.{vindex_name}
use Rattle.vindex.specs.declared.vindexes.Vindex.{Vindex}
use Rattle.filter_text.specs.FilterText.{RowsSaid, every_row, in_own_range, in_range_of, FilterMeaning, filter_of}
use Rattle.filter_rule.specs.Document.{RuleSaid}
use Rattle.workflow_check.specs.Json.{text_at}
use Rattle.workflow_check.specs.Rules.{rules_in, own_vindex, first_rule}

-- a key range of ids, and whose they are
pub record RangedValue : Type 0 where
  pub column : List ℕ
  pub vindex : Vindex
  pub range : Bounds

-- what a rule's filter says
abbrev pub said_by : Option RuleSaid → Option FilterMeaning
said_by rule = option_and_then (λ r. filter_of r.filter) rule

-- the rows that it names
abbrev pub rows_by : Option RuleSaid → Option RowsSaid
rows_by rule = option_map (λ said. said.rows) (said_by rule)

-- a key range that they are in: one alone is under the table's own vindex
abbrev pub own_ranged : Bounds → Option (List ℕ × Vindex) → Option RangedValue
own_ranged range None = None
own_ranged range (Some v) = Some (record { column = v.0; vindex = v.1; range = range })

abbrev pub range_said : Option (List ℕ × Vindex) → RowsSaid → Option RangedValue
range_said own every_row = None
range_said own (in_own_range range) = own_ranged range own
range_said own (in_range_of column vindex range) = Some (record { column = column; vindex = vindex; range = range })

-- ---- in words

abbrev pub end_text : Option (List ℕ) → List ℕ
end_text None = []
end_text (Some end) = encode_lower end

abbrev pub range_text : Bounds → List ℕ
range_text range = encode_lower range.start ++ codes "-" ++ end_text range.end

abbrev pub ranged_text : Option RangedValue → List ℕ
ranged_text None = codes "every row"
ranged_text (Some r) = codes "range " ++ range_text r.range ++ codes " of " ++ r.column ++ codes " by " ++ vindex_name r.vindex

-- columns, each behind a comma
abbrev pub more_columns : List (List ℕ) → List ℕ
more_columns columns = flat_map (λ column. 44 ∷ column) columns

-- columns parted by commas
abbrev pub parted : List (List ℕ) → List ℕ
parted [] = []
parted (column ∷ columns) = column ++ more_columns columns

-- the columns that a filter lists, where it lists any
abbrev pub columns_text : Option (List (List ℕ)) → List ℕ
columns_text None = []
columns_text (Some columns) = codes "columns " ++ parted columns ++ codes " "

abbrev pub said_text : Option (List ℕ × Vindex) → Option FilterMeaning → List ℕ
said_text own None = codes "no row"
said_text own (Some said) = columns_text said.columns ++ ranged_text (range_said own said.rows)

-- the columns that are listed of a table, and its rows that a stream passes
abbrev pub table_words : List RuleSaid → Data → List ℕ
table_words rules table = said_text (own_vindex table) (said_by (first_rule rules (text_at (codes "name") table)))

-- ---- lines

-- the line of a table of a stream with these rules, printable
abbrev pub rule_line : ℕ → List RuleSaid → Data → List ℕ
rule_line i rules table = codes "rule stream " ++ decimal i ++ codes " table " ++ shown (text_at (codes "name") table) ++ codes " " ++ printable (table_words rules table) ++ 10 ∷ []

abbrev pub stream_lines : ℕ → List RuleSaid → List Data → List ℕ
stream_lines i rules tables = flat_map (rule_line i rules) tables

-- those of the streams, from one on
abbrev pub rule_lines : List Data → ℕ → List Data → List ℕ
rule_lines tables i [] = []
rule_lines tables i (stream ∷ streams) = stream_lines i (rules_in stream) tables ++ rule_lines tables (i + 1) streams
