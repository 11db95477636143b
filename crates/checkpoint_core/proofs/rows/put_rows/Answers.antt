use Rattle.std.proofs.Common.{◌++◌, map}
use Rattle.checkpoint_core.specs.Private.Reading.{AreRows, IsRowOf, of_table, rows_in}
use Rattle.std.proofs.lemmas.Result.{err_from_is_err_and}
use Rattle.pk_copy.specs.KeyOrder.{key_cmp}
use Rattle.pk_copy.specs.KeyValue.{KeyValue}
use Rattle.target_tables.specs.Rising.{AreBelow}
use Rattle.checkpoint_core.proofs.Items.{nothing_by}
use Rattle.checkpoint_core.proofs.RowLaws.{rows_turn, rows_stop}
use Rattle.checkpoint_core.proofs.rows.put_rows.Goals as goal

pub returns-in_err-put_row-clause-err : goal.returns-in_err-put_row-clause-err
returns-in_err-put_row-clause-err c =
    let p = err_from_is_err_and c.from_residual.result c.from_residual.ensures.1 in
    rw (p.1, p.2) (λ later. nothing_by (λ (key : KeyValue). IsRowOf c.args.plan.now c.args.t c.in-Some.row key × AreBelow key_cmp key c.loop-row.rows.items)
    (AreRows c.args.plan.now ((map of_table c.args.rows.now.items ++ rows_in c.args.t c.args.found) ++ later))
    (λ none all h. rows_stop c.args.plan.now c.args.t c.in-Some.row c.next.new.self c.loop-row.row-iterator c.loop-row.rows.items _ later c.in-Some.ensures.steps c.loop-row.invariant none all h)
    c.in_err-put_row.field-0.0 c.in_err-put_row.ensures.err)

pub loop-row-preserved : goal.loop-row-preserved
loop-row-preserved c =
    rows_turn c.args.plan.now c.args.t c.in-Some.row c.next.new.self c.loop-row.row-iterator c.loop-row.rows.items c.put_row.new.rows.items _ c.in-Some.ensures.steps c.in_ok-put_row.ensures.ok c.loop-row.invariant
