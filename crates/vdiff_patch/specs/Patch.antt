-- What makes a target's rows the source's, as SQL's INSERT, UPDATE and DELETE by primary key do (this profile).
use Rattle.std.specs.Prelude.{ℕ, ◌+◌, not, List, [], ◌∷◌, ◌++◌, map, Option, None, Some, slice_set, is_none, if◌then◌else◌}
use Rattle.std.specs.List.{filter}
use Rattle.std.specs.Option.{option_and_then}
use Rattle.std.specs.Ordering.{eq_by_cmp}
use Rattle.pk_copy.specs.KeyOrder.{key_cmp}
use Rattle.pk_copy.specs.KeyValue.{KeyValue}
use Rattle.dump.specs.DumpRowsValue.{RowValue, DumpRowsValue, row_with_key}
use Rattle.vdiff.specs.Report.{column_eq}
use Rattle.vdiff_patch.specs.AllDifferences.{rows_before, differences_of}
use Rattle.vdiff.specs.Differences.{Difference, rows_past}

-- a column's place in a row, and a value
abbrev pub Cell : Type 0
Cell = ℕ × Option (List ℕ)

-- what is done at a key: values are written over columns of its row, a row is put there, or its row is taken away
pub data Change : Type 0 where
  update : List Cell → Change
  insert : RowValue → Change
  delete : Change

-- changes, each with its key
abbrev pub Patch : Type 0
Patch = List (KeyValue × Change)

-- ---- what a patch does

-- a row with these values written over its columns
abbrev pub with_cells : RowValue → List Cell → RowValue
with_cells row [] = row
with_cells row (cell ∷ cells) = with_cells (slice_set row cell.0 cell.1) cells

-- the row at a key with these values written over its columns, any other row as it is
abbrev pub updated : KeyValue → List Cell → KeyValue × RowValue → KeyValue × RowValue
updated key cells row = if eq_by_cmp key_cmp key row.0 then (row.0, with_cells row.1 cells) else row

-- the rows with a row put at a key, in its place
abbrev pub with_row : KeyValue → RowValue → DumpRowsValue → DumpRowsValue
with_row key row rows = rows_before key rows ++ (key, row) ∷ rows_past key rows

-- the rows behind a change at a key; no row can be put where one stands
abbrev pub changed : KeyValue → Change → DumpRowsValue → Option DumpRowsValue
changed key (update cells) rows = Some (map (updated key cells) rows)
changed key (insert row) rows = if is_none (row_with_key rows key) then Some (with_row key row rows) else None
changed key delete rows = Some (filter (λ row. not (eq_by_cmp key_cmp key row.0)) rows)

-- the rows behind the changes of a patch, made one after another; none where one of them can't be made
abbrev pub patched : DumpRowsValue → Patch → Option DumpRowsValue
patched rows [] = Some rows
patched rows (change ∷ others) = option_and_then (λ now. patched now others) (changed change.0 change.1 rows)

-- ---- the patch of two sets of rows

-- the values of a row that differ from another's, with their places, where the first has place i
abbrev pub differing_from : ℕ → RowValue → RowValue → List Cell
differing_from i (value ∷ row) (other ∷ there) = (if column_eq value other then [] else (i, value) ∷ []) ++ differing_from (i + 1) row there
differing_from i row there = []

-- what makes the source's row of the target's
abbrev pub change_of : Option RowValue → Option RowValue → Change
change_of None there = delete
change_of (Some row) None = insert row
change_of (Some row) (Some there) = update (differing_from 0 row there)

abbrev pub change_at : Difference → KeyValue × Change
change_at one = (one.key, change_of one.source one.target)

-- a change at each key at which they differ
abbrev pub patch_of : DumpRowsValue → DumpRowsValue → Patch
patch_of source target = map change_at (differences_of source target)
