use Rattle.log_rows.specs.Written.{cells_value}
use Rattle.log_feed.proofs.BytesLaws.{puts-next, puts-none}
use Rattle.log_feed.proofs.changes.put_next.Goals as goal

pub returns-in-Ok : goal.returns-in-Ok
returns-in-Ok c =
    puts-next c.args.kind c.args.changes.now c.next_change.new.self (cells_value c.next_change.new.before) (cells_value c.next_change.new.after) c.args.out.now.items c.put_if.new.out.items c.in-Ok.more c.put_if.result c.in-Ok.ensures c.put_if.ensures

pub returns-in-Err : goal.returns-in-Err
returns-in-Err c =
    rw c.trouble_of.ensures
    (puts-none c.args.kind c.args.changes.now c.next_change.new.self (cells_value c.next_change.new.before) (cells_value c.next_change.new.after) c.args.out.now.items c.args.out.now.items c.in-Err.error c.in-Err.ensures)
