use Rattle.std.proofs.Common.{Some, length, length-append, ap, arith}
use Rattle.log_tables.specs.Column.{column_value}
use Rattle.log_rows.specs.Written.{cells_value}
use Rattle.log_rows.proofs.CellLaws.{cell-text, text_written}
use Rattle.log_rows.proofs.cell.put_text.Goals as goal

pub overflow_sub-size : goal.overflow_sub-size
overflow_sub-size c = let put = c.in-Ok.ensures in omega (arith, ap length put.2, length-append c.args.out.now.values.items put.0)

pub returns-in_ok-put_length-in-Ok : goal.returns-in_ok-put_length-in-Ok
returns-in_ok-put_length-in-Ok c =
    let put = rw c.deref.ensures.value at c.in-Ok.ensures in
    (Some put.0, cell-text (column_value c.args.column.now) c.args.bytes.now put.0 c.in-Ok.rest.now put.1, text_written (cells_value c.args.out.now) _ put.0 _ put.2 c.in_ok-put_length-in-Ok.ensures (omega (arith, ap length put.2, length-append c.args.out.now.values.items put.0)))
