-- How many columns rows have, by what was met of them.
use Rattle.std.specs.Prelude.{◌≡◌, ℕ, ◌==◌, ◌&&◌, Bool, true, false, List}
use Rattle.std.specs.List.{filter_map, list_all}
use Rattle.std.specs.Result.{result_ok}
use Rattle.proto_wire.specs.Field.{WireField, fields_of}
use Rattle.vevent.specs.declared.column_count.ColumnCount.{ColumnCount}
use Rattle.vevent.specs.declared.column_count.ColumnCount.TheVariants.{NoRow, Same, Mixed}
use Rattle.vevent.specs.EventValue.{ChangeValue}
use Rattle.proto_wire.specs.Parts.{part_in}
use Rattle.row_view.specs.Row.{row_of_message}
use Rattle.vevent.specs.Columns.{has_columns, have_columns}

-- all rows that were met have so many columns
abbrev pub all_have : ColumnCount → ℕ → Bool
all_have NoRow columns = true
all_have (Same met) columns = met == columns
all_have Mixed columns = false

-- a row has so many columns, where it can be read
abbrev pub image_has : ℕ → List ℕ → Bool
image_has columns row = has_columns columns (result_ok (row_of_message row))

-- so have the rows before and after in the fields of a row change, however many there are
abbrev pub images_have : ℕ → List WireField → Bool
images_have columns fields = list_all (image_has columns) (filter_map (part_in 1) fields) && list_all (image_has columns) (filter_map (part_in 2) fields)

-- and those of row changes
abbrev pub changes_have : ℕ → List (List ℕ) → Bool
changes_have columns changes = list_all (λ change. images_have columns (fields_of change).items) changes

-- the count is that of all rows of the changes
abbrev pub IsCountOf : ColumnCount → List ChangeValue → Type 0
IsCountOf count changes = (columns : ℕ) → all_have count columns ≡ list_all (have_columns columns) changes
