use Rattle.std.proofs.lemmas.Result.{err_from_is_err_and}
use Rattle.row_view.specs.WrittenRow.{IsWithinLimits}
use Rattle.compaction.specs.Compacting.{HasLongRow}
use Rattle.compaction.specs.Private.Sized.{joined}
use Rattle.compaction.proofs.WritingLaws.{long_row, over_by, writes_next, writes_end}
use Rattle.compaction.proofs.base.push_rows.Goals as goal

pub loop-key-preserved : goal.loop-key-preserved
loop-key-preserved c =
    writes_next c.args.plan.now c.args.fields.now (joined c.args.portions.now.items) (joined c.loop-key.portions.items) (joined c.make_room.new.portions.items) c.loop-key.waiting c.make_room.new.self c.push.new.self c.args.rows.now c.loop-key.key-iterator
    c.next.new.self (c.in-Some.key.now, (c.in-Some.field-0-1, c.in-Some.row.now)) c.table-table.result c.loop-key.invariant c.in-Some.ensures.steps c.table-table.ensures c.in_ok-make_room.ensures c.in_ok-push.ensures.waits

pub returns-clause-adds : goal.returns-clause-adds
returns-clause-adds c =
    writes_end c.args.plan.now c.args.fields.now (joined c.args.portions.now.items) (joined c.loop-key.portions.items) (joined c.flush.new.portions.items) c.loop-key.waiting c.args.rows.now c.loop-key.key-iterator c.loop-key.invariant
    c.in-None.ensures.steps.0 c.in_ok-flush.ensures.put

pub returns-in_err-push-clause-long : goal.returns-in_err-push-clause-long
returns-in_err-push-clause-long c =
    let p = err_from_is_err_and c.from_residual-in_err-push.result c.from_residual-in_err-push.ensures.1 in
    let row = c.in-Some.row.now in
    rw (p.1, p.2)
    (over_by (¬ IsWithinLimits row) (HasLongRow c.args.rows.now) c.in_err-push.field-0.0
    (long_row c.args.plan.now c.args.fields.now (joined c.args.portions.now.items) (joined c.loop-key.portions.items) c.loop-key.waiting c.args.rows.now c.loop-key.key-iterator c.next.new.self (c.in-Some.key.now, (c.in-Some.field-0-1, row))
    c.loop-key.invariant c.in-Some.ensures.steps)
    c.in_err-push.ensures.long)
