use Rattle.std.proofs.Common.{ℕ, ◌+◌, map, refl, ap}
use Rattle.log_tables.specs.Column.{column_value}
use Rattle.log_rows.specs.Image.{cells_at}
use Rattle.log_rows.specs.Written.{cells_value}
use Rattle.log_rows.proofs.CellLaws.{goes_none, goes_on, goes_all, goes_refused}
use Rattle.log_rows.proofs.image.put_cells.Goals as goal

pub loop-column-init : goal.loop-column-init
loop-column-init c = (goes_none column_value c.args.nulls.now c.args.columns.now c.args.bytes.now (cells_value c.args.out.now) (cells_value c.args.out.now) refl, refl)

pub returns-in-Err : goal.returns-in-Err
returns-in-Err c =
    goes_refused column_value c.args.nulls.now c.args.columns.now c.loop-column.column-index c.loop-column.left.now (cells_value c.args.out.now) (cells_value c.loop-column.out) (cells_value c.put_cell.new.out) (cells_at c.args.nulls.now 0 (map column_value c.args.columns.now) c.args.bytes.now)
    c.column-item.result c.loop-column.place c.bit_of.result c.in-Err.error c.loop-column-test.true c.column-item.is c.loop-column.invariant.1 c.bit_of.ensures c.in-Err.ensures c.loop-column.invariant.0

pub loop-column-preserved : goal.loop-column-preserved
loop-column-preserved c =
    let read = c.in-Ok.ensures in (
      goes_on column_value c.args.nulls.now c.args.columns.now c.loop-column.column-index c.loop-column.left.now (cells_value c.args.out.now) (cells_value c.loop-column.out) (cells_value c.put_cell.new.out) (cells_at c.args.nulls.now 0 (map column_value c.args.columns.now) c.args.bytes.now)
          c.column-item.result c.loop-column.place c.bit_of.result read.0 c.in-Ok.rest.now c.loop-column-test.true c.column-item.is c.loop-column.invariant.1 c.bit_of.ensures read.1 read.2 c.loop-column.invariant.0,
      ap (λ (n : ℕ). n + 1) c.loop-column.invariant.1,
    )

pub returns : goal.returns
returns c =
    let h = c.loop-column.invariant.0 in
    (h.row, goes_all column_value c.args.nulls.now c.args.columns.now c.loop-column.column-index c.loop-column.left.now (cells_value c.args.out.now) (cells_value c.loop-column.out) (cells_at c.args.nulls.now 0 (map column_value c.args.columns.now) c.args.bytes.now) c.loop-column-test.false h, h.written)
