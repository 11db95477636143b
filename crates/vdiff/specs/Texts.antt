-- The comparison of two sets of rows as text (this profile).
use Rattle.std.specs.Prelude.{ℕ, List, [], ◌∷◌, ◌++◌, Option, codes, decimal}
use Rattle.std.specs.List.{flat_map}
use Rattle.std.specs.Option.{option_map_or}
use Rattle.filter_rule.specs.PlanTable.{TableValue, name_of_table}
use Rattle.pk_copy.specs.KeyValue.{KeyValue}
use Rattle.dump.specs.Cells.{cells}
use Rattle.dump.specs.DumpRowsValue.{RowValue}
use Rattle.vdiff.specs.declared.report.Report.{Report}
use Rattle.dump.specs.KeyText.{key_text}
use Rattle.vdiff.specs.Differences.{Difference}
use Rattle.vdiff.specs.Reports.{NamedReport}

-- ---- counts

-- a count between its name and what stands behind it
abbrev pub count_text : List ℕ → ℕ → List ℕ → List ℕ
count_text name count behind = name ++ decimal count ++ behind

-- the five counts, with this between them, and the end of the line
abbrev pub counts_text : List ℕ → Report → List ℕ
counts_text between report =
    count_text (codes "processed ") report.processed between ++ count_text (codes "matching ") report.matching between ++ count_text (codes "mismatched ") report.mismatched between ++ count_text (codes "extra source ") report.extra_source between ++ count_text (codes "extra target ") report.extra_target (10 ∷ [])

-- a table's line: its name and the counts
abbrev pub table_text : NamedReport → List ℕ
table_text table = codes "table " ++ table.name ++ codes " " ++ counts_text (codes " ") table.report

abbrev pub tables_text : List NamedReport → List ℕ
tables_text tables = flat_map table_text tables

-- ---- keys

-- the line of a key: a word, its table, and itself
abbrev pub key_line : List TableValue → List ℕ → KeyValue → List ℕ
key_line tables word key = word ++ name_of_table tables key.table ++ codes " key " ++ key_text key ++ 10 ∷ []

-- ---- differences

-- the line of a row: a word, and its cells, each behind a tab
abbrev pub side_line : List ℕ → RowValue → List ℕ
side_line word row = word ++ cells row ++ 10 ∷ []

-- the same where there is a row
abbrev pub side_text : List ℕ → Option RowValue → List ℕ
side_text word row = option_map_or (side_line word) row []

-- a key's line, and behind it those of the rows that stand there
abbrev pub difference_text : List TableValue → Difference → List ℕ
difference_text tables one = key_line tables (codes "differs table ") one.key ++ side_text (codes "source") one.source ++ side_text (codes "target") one.target

abbrev pub differences_text : List TableValue → List Difference → List ℕ
differences_text tables differences = flat_map (difference_text tables) differences
