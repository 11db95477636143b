use Rattle.std.proofs.Common.{None, refl}
use Rattle.log_rows.specs.Written.{cells_value}
use Rattle.log_rows.proofs.CellLaws.{null_written}
use Rattle.log_rows.proofs.cell.put_cell.Goals as goal

pub returns-then-not-null : goal.returns-then-not-null
returns-then-not-null c = rw c.if-not-null.true c.put_text.ensures

pub returns : goal.returns
returns c = rw c.if-not-null.false (None, refl, null_written (cells_value c.args.out.now) _ refl c.in_ok-put_varint.ensures.written)
