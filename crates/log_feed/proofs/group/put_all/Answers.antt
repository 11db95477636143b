use Rattle.std.proofs.Common.{map}
use Rattle.log_groups.specs.Transaction.{done_value}
use Rattle.log_feed.specs.Table.{table_value}
use Rattle.log_feed.proofs.GroupLaws.{told-on, told-refused, told-done}
use Rattle.log_feed.proofs.group.put_all.Goals as goal

pub returns-in-Err : goal.returns-in-Err
returns-in-Err c =
    told-refused done_value c.args.changes.now c.loop-done.done-index c.args.schema.now (map table_value c.args.tables.now) c.loop-done.stages.items (map (λ e. e.items) c.loop-done.events.items) _ _ c.in-Err.error c.loop-done-test.true c.in-Err.ensures c.loop-done.invariant

pub loop-done-preserved : goal.loop-done-preserved
loop-done-preserved c =
    told-on done_value c.args.changes.now c.loop-done.done-index c.args.schema.now (map table_value c.args.tables.now) c.loop-done.stages.items c.put_done.new.stages.items (map (λ e. e.items) c.loop-done.events.items) (map (λ e. e.items) c.put_done.new.events.items) _
    _ c.loop-done-test.true c.in_default.ensures c.loop-done.invariant

pub returns : goal.returns
returns c =
    told-done done_value c.args.changes.now c.loop-done.done-index c.args.schema.now (map table_value c.args.tables.now) c.loop-done.stages.items (map (λ e. e.items) c.loop-done.events.items) _ c.loop-done-test.false c.loop-done.invariant
