-- The comparison of two sets of rows as JSON (this profile). An object has its members by their names.
use Rattle.std.specs.Prelude.{ℕ, List, [], ◌∷◌, ◌++◌, Option, None, Some, codes, map}
use Rattle.filter_rule.specs.PlanTable.{TableValue, name_of_table}
use Rattle.pk_copy.specs.KeyValue.{KeyValue}
use Rattle.serde_json.specs.Data.{Data, null, number, string, array, object, Members, no_members, member, unsigned}
use Rattle.serde_json.specs.View.{items_of}
use Rattle.serde_json.specs.Written.{compact_text}
use Rattle.dump.specs.Cells.{cell}
use Rattle.dump.specs.DumpRowsValue.{RowValue}
use Rattle.vdiff.specs.declared.report.Report.{Report}
use Rattle.dump.specs.KeyText.{part_cell}
use Rattle.vdiff.specs.Differences.{Difference}
use Rattle.vdiff.specs.Reports.{NamedReport}

-- a cell: null for NULL, else its text
abbrev pub cell_data : Option (List ℕ) → Data
cell_data None = null
cell_data (Some value) = string (cell (Some value))

-- a row: its cells
abbrev pub row_data : RowValue → Data
row_data row = array (items_of (map cell_data row))

-- null where there is no row
abbrev pub side_data : Option RowValue → Data
side_data None = null
side_data (Some row) = row_data row

-- a key: its parts as cells
abbrev pub key_data : KeyValue → Data
key_data key = array (items_of (map (λ part. string (part_cell part)) key.parts))

-- a key at which the two differ, its table, and the rows that stand there
abbrev pub difference_data : List TableValue → Difference → Data
difference_data tables one =
    object (
    member (codes "key") (key_data one.key)
    (member (codes "source") (side_data one.source)
    (member (codes "table") (string (name_of_table tables one.key.table))
    (member (codes "target") (side_data one.target) no_members)))
    )

-- four of the five counts, and the fifth before what stands behind it
abbrev pub counts_before : Report → Members → Members
counts_before report others =
    member (codes "extra_source") (number (unsigned report.extra_source))
    (member (codes "extra_target") (number (unsigned report.extra_target))
    (member (codes "matching") (number (unsigned report.matching))
    (member (codes "mismatched") (number (unsigned report.mismatched))
    (member (codes "processed") (number (unsigned report.processed)) others))))

-- a table: its counts and its name
abbrev pub table_data : NamedReport → Data
table_data table = object (counts_before table.report (member (codes "table") (string table.name) no_members))

-- the first differences, the counts, and those of each table
abbrev pub comparison_data : List TableValue → Report → List NamedReport → List Difference → Data
comparison_data tables report reports found =
    object (
    member (codes "differences") (array (items_of (map (difference_data tables) found)))
    (counts_before report (member (codes "tables") (array (items_of (map table_data reports))) no_members))
    )

-- a line of JSON
abbrev pub json_line : Data → List ℕ
json_line line = compact_text line ++ 10 ∷ []

-- the refusal of a file by a number
abbrev pub error_data : ℕ → List ℕ → Data
error_data refused file =
    object (member (codes "error") (object (member (codes "file") (string file) (member (codes "number") (number (unsigned refused)) no_members))) no_members)
