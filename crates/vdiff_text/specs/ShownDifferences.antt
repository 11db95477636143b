-- The keys at which two sets of rows differ, as a person reads them (this profile).
use Rattle.std.specs.Prelude.{ℕ, ◌+◌, Bool, true, false, List, [], ◌∷◌, ◌++◌, take, Option, None, Some, codes, slice_get, if◌then◌else◌}
use Rattle.std.specs.List.{flat_map}
use Rattle.std.specs.Option.{option_map_or, option_and_then}
use Rattle.row_view.specs.FieldValue.{FieldValue}
use Rattle.filter_rule.specs.PlanTable.{TableValue}
use Rattle.pk_copy.specs.KeyValue.{Part, number, bytes, KeyValue}
use Rattle.pk_copy.specs.Lastpk.{part_text}
use Rattle.shown_text.specs.Shown.{printable}
use Rattle.dump.specs.DumpRowsValue.{RowValue, DumpRowsValue}
use Rattle.vdiff.specs.Report.{column_eq}
use Rattle.vdiff_patch.specs.AllDifferences.{differences_of}
use Rattle.vdiff.specs.Differences.{Difference}
use Rattle.vdiff_text.specs.ShownValues.{shown_cell, shown_value}

-- ---- keys

-- a part of a key: a number by its digits, a byte string as a value
abbrev pub shown_part : Part → List ℕ
shown_part (number value) = part_text (number value)
shown_part (bytes text) = shown_value text

-- what stands before a part: nothing before the first
abbrev pub bar_before : Bool → List ℕ
bar_before first = if first then [] else codes " | "

-- the parts of a key, parted by bars
abbrev pub shown_parts : Bool → List Part → List ℕ
shown_parts first [] = []
shown_parts first (part ∷ parts) = bar_before first ++ shown_part part ++ shown_parts false parts

-- ---- columns

-- the column of a table that has place i in its rows
abbrev pub row_column : TableValue → ℕ → Option FieldValue
row_column table i = option_and_then (λ place. slice_get table.columns place) (slice_get table.kept i)

-- what stands before the values of a column: its name
abbrev pub column_front : Option FieldValue → List ℕ
column_front column = codes "  " ++ printable (option_map_or (λ c. c.name) column []) ++ codes ": "

-- the line of a column whose values differ, and of one of a row that stands on one side alone
abbrev pub both_line : Option FieldValue → Option (List ℕ) → Option (List ℕ) → List ℕ
both_line column value other = column_front column ++ shown_cell value ++ codes " | " ++ shown_cell other ++ codes "\n"

abbrev pub one_line : Option FieldValue → Option (List ℕ) → List ℕ
one_line column value = column_front column ++ shown_cell value ++ codes "\n"

-- no line where the two values are equal
abbrev pub line_if_other : Option FieldValue → Option (List ℕ) → Option (List ℕ) → List ℕ
line_if_other column value other = if column_eq value other then [] else both_line column value other

-- the lines of the columns that differ in two rows, and of all columns of one row, where the first has place i
abbrev pub both_lines : TableValue → ℕ → RowValue → RowValue → List ℕ
both_lines table i (value ∷ row) (other ∷ there) = line_if_other (row_column table i) value other ++ both_lines table (i + 1) row there
both_lines table i row there = []

abbrev pub one_lines : TableValue → ℕ → RowValue → List ℕ
one_lines table i [] = []
one_lines table i (value ∷ row) = one_line (row_column table i) value ++ one_lines table (i + 1) row

-- ---- differences

-- the first line: the table, the key, and what there is of it
abbrev pub head_line : TableValue → KeyValue → List ℕ → List ℕ
head_line table key what = codes "table " ++ printable table.name ++ codes " key " ++ shown_parts true key.parts ++ what

-- the row that stands at a key on one side alone, and the columns that differ in two rows at one
abbrev pub one_side : TableValue → KeyValue → List ℕ → RowValue → List ℕ
one_side table key what row = head_line table key what ++ one_lines table 0 row

abbrev pub both_sides : TableValue → KeyValue → RowValue → RowValue → List ℕ
both_sides table key row there = head_line table key (codes " differs\n") ++ both_lines table 0 row there

-- a key at which they differ
abbrev pub sides_text : TableValue → KeyValue → Option RowValue → Option RowValue → List ℕ
sides_text table key None None = []
sides_text table key (Some row) None = one_side table key (codes " only in the source\n") row
sides_text table key None (Some there) = one_side table key (codes " only in the target\n") there
sides_text table key (Some row) (Some there) = both_sides table key row there

abbrev pub shown_difference : List TableValue → Difference → List ℕ
shown_difference tables one = option_map_or (λ table. sides_text table one.key one.source one.target) (slice_get tables one.key.table) []

-- the first n of all, by rising key
abbrev pub shown_differences : List TableValue → ℕ → DumpRowsValue → DumpRowsValue → List ℕ
shown_differences tables n source target = flat_map (shown_difference tables) (take n (differences_of source target))
