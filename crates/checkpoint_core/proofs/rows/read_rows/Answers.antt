use Rattle.std.proofs.Common.{◌≡◌, ◌∙◌, ◌++◌, List, ℕ, map, ap, subst}
use Rattle.std.proofs.lemmas.Result.{err_from_is_err_and}
use Rattle.list_laws.proofs.Walks.{at_item}
use Rattle.checkpoint_core.specs.Fault.{IsNothing}
use Rattle.checkpoint_core.specs.Private.Reading.{AreRows, of_table, rows_in, rows_from}
use Rattle.checkpoint_core.proofs.RowLaws.{table_turn, table_stop, table_end}
use Rattle.source_feed.specs.History.{RowValue}
use Rattle.checkpoint_core.proofs.rows.read_rows.Goals as goal

pub returns-in_err-put_rows-clause-err : goal.returns-in_err-put_rows-clause-err
returns-in_err-put_rows-clause-err c =
    let p = err_from_is_err_and c.from_residual.result c.from_residual.ensures.1 in
    let at = at_item c.args.tables.now c.loop-t.t c.index-tables-t.result c.loop-t-test.true c.index-tables-t.is in
    let found : c.rows.result ≡ c.index-tables-t.result.answer.rows = c.rows.ensures ∙ ap (λ answer. answer.rows) c.answer.ensures in
    rw (p.1, p.2) (table_stop c.args.plan.now c.args.tables.now c.loop-t.t c.index-tables-t.result c.loop-t.rows.items (rows_from 0 c.args.tables.now) c.in_err-put_rows.field-0.0 at c.loop-t.invariant.1
    (subst (λ (rows : List RowValue). (later : List (ℕ × RowValue)) → IsNothing (AreRows c.args.plan.now ((map of_table c.loop-t.rows.items ++ rows_in c.loop-t.t rows) ++ later)) c.in_err-put_rows.field-0.0) found c.in_err-put_rows.ensures.err))

pub loop-t-preserved : goal.loop-t-preserved
loop-t-preserved c =
    let at = at_item c.args.tables.now c.loop-t.t c.index-tables-t.result c.loop-t-test.true c.index-tables-t.is in
    let found : c.rows.result ≡ c.index-tables-t.result.answer.rows = c.rows.ensures ∙ ap (λ answer. answer.rows) c.answer.ensures in
    table_turn c.args.plan.now c.args.tables.now c.loop-t.t c.index-tables-t.result c.loop-t.rows.items c.put_rows.new.rows.items (rows_from 0 c.args.tables.now) at
    (subst (λ (rows : List RowValue). AreRows c.args.plan.now (map of_table c.loop-t.rows.items ++ rows_in c.loop-t.t rows) c.put_rows.new.rows.items) found c.in_ok-put_rows.ensures.ok) c.loop-t.invariant.1

pub returns-clause-ok : goal.returns-clause-ok
returns-clause-ok c = table_end c.args.plan.now c.args.tables.now c.loop-t.t c.loop-t.rows.items (rows_from 0 c.args.tables.now) c.loop-t-test.false c.loop-t.invariant
