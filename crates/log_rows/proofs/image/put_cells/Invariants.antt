use Rattle.std.proofs.Common.{◌≡◌, map}
use Rattle.log_tables.specs.Column.{column_value}
use Rattle.log_rows.specs.Image.{cells_at}
use Rattle.log_rows.specs.Written.{cells_value}
use Rattle.log_rows.proofs.CellLaws.{Goes}
use Rattle.log_rows.proofs.image.put_cells.Given as goal

abbrev pub invariant-loop-column : goal.invariant-loop-column
invariant-loop-column l =
    Goes column_value l.nulls l.columns l.column-index l.left (cells_value l.fn.out) (cells_value l.out) (cells_at l.nulls 0 (map column_value l.columns) l.bytes) × (l.place ≡ l.column-index)
