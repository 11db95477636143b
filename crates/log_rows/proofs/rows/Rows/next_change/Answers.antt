use Rattle.std.proofs.Common.{map}
use Rattle.item_readers.proofs.ReadingLaws.{empty_list, not_empty, next_none, next_some}
use Rattle.log_tables.specs.Column.{column_value}
use Rattle.log_rows.specs.Change.{change_at}
use Rattle.log_rows.specs.Written.{cells_value}
use Rattle.log_rows.proofs.RowLaws.{change_reader, columns_seen}
use Rattle.log_rows.proofs.ChangeLaws.{next_refused}
use Rattle.log_rows.proofs.rows.Rows.next_change.Goals as goal

pub returns-then-is_empty : goal.returns-then-is_empty
returns-then-is_empty c =
    next_none (change_at c.self.inside.kind (map column_value c.self.inside.columns.now)) c.self.inside.left.now c.args.self.now (empty_list c.self.inside.left.now c.if-is_empty.ensures) c.self.view_is

pub returns-in-Err : goal.returns-in-Err
returns-in-Err c =
    next_refused (change_at c.self.inside.kind (map column_value c.self.inside.columns.now)) c.self.inside.left.now c.args.self.now (cells_value c.put_change.new.before) (cells_value c.put_change.new.after) c.in-Err.error (not_empty c.self.inside.left.now c.if-is_empty.ensures) c.self.view_is c.in-Err.ensures

pub returns-in-Ok : goal.returns-in-Ok
returns-in-Ok c =
    let columns = map column_value c.self.inside.columns.now in
    let change = c.in-Ok.ensures in
    let next = next_some (change_at c.self.inside.kind columns) (change_reader c.self.inside.kind columns (columns_seen column_value c.self.inside.columns.now c.self.invariant)) c.self.inside.left.now c.args.self.now (change.0, c.in-Ok.rest.now) change.1 c.self.view_is in
    (change.0, next.0, next.1, change.2, change.3)
