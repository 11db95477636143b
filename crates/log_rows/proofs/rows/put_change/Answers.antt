use Rattle.std.proofs.Common.{map}
use Rattle.log_tables.specs.Column.{column_value}
use Rattle.log_rows.specs.Written.{cells_value}
use Rattle.log_rows.proofs.ChangeLaws.{write_change, delete_change}
use Rattle.log_rows.proofs.rows.put_change.Goals as goal

pub returns-in-Write : goal.returns-in-Write
returns-in-Write c =
    rw c.in-Write.is
    (write_change (map column_value c.args.columns.now) c.args.bytes.now (cells_value c.clear-2.new.self) (cells_value c.clear.new.self) (cells_value c.put_image.new.out) _ c.clear-2.ensures c.clear.ensures c.put_image.ensures)

pub returns-in-Delete : goal.returns-in-Delete
returns-in-Delete c =
    rw c.in-Delete.is
    (delete_change (map column_value c.args.columns.now) c.args.bytes.now (cells_value c.clear.new.self) (cells_value c.put_image-in-Delete.new.out) (cells_value c.clear-2.new.self) _ c.clear.ensures c.clear-2.ensures c.put_image-in-Delete.ensures)

pub returns-in-Update : goal.returns-in-Update
returns-in-Update c = rw c.in-Update.is c.put_both.ensures
