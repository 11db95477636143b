-- The sizes that are counted of a row before it is written.
use Rattle.std.specs.Prelude.{◌≡◌, ℕ, length}
use Rattle.row_view.specs.Row.{RowValue}
use Rattle.row_view.specs.WrittenRow.{written_lengths, written_values}
use Rattle.row_view.specs.declared.written_row.RowSize.{RowSize}

-- columns are so many, and their lengths and values have these sizes
pub record AreSizes (columns : RowValue) (count : ℕ) (size : RowSize) : Type 0 where
  pub many : length columns ≡ count
  pub lengths : length (written_lengths columns) ≡ size.lengths
  pub values : length (written_values columns) ≡ size.values
