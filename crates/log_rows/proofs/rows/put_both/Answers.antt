use Rattle.std.proofs.Common.{map}
use Rattle.log_tables.specs.Column.{column_value}
use Rattle.log_rows.specs.Written.{cells_value}
use Rattle.log_rows.proofs.ChangeLaws.{update_change, update_refused}
use Rattle.log_rows.proofs.rows.put_both.Goals as goal

pub returns-in-Ok : goal.returns-in-Ok
returns-in-Ok c =
    update_change (map column_value c.args.columns.now) c.args.bytes.now c.in-Ok.rest.now (cells_value c.args.before.now) (cells_value c.put_image.new.out) (cells_value c.args.after.now) (cells_value c.put_image-in-Ok.new.out) _ c.requires.before c.requires.after c.in-Ok.ensures c.put_image-in-Ok.ensures

pub returns-in-Err : goal.returns-in-Err
returns-in-Err c = update_refused (map column_value c.args.columns.now) c.args.bytes.now (cells_value c.args.before.now) (cells_value c.put_image.new.out) (cells_value c.args.after.now) c.in-Err.error c.in-Err.ensures
