use Rattle.std.proofs.Common.{◌∙◌, sym}
use Rattle.std.proofs.lemmas.Bool.{true≢false}
use Rattle.std.proofs.lemmas.Result.{err_from_is_err_and}
use Rattle.pk_copy.specs.Marks.{mark_of}
use Rattle.checkpoint_core.specs.Private.Reading.{SaysMark, AreMarksOf, mark_read}
use Rattle.checkpoint_core.proofs.Items.{there_at, nothing_by}
use Rattle.checkpoint_core.proofs.MarkLaws.{key_read, one_more, all_marked, out_of_order}
use Rattle.checkpoint_core.proofs.marks.read_marks.Goals as goal

pub returns-in_err-mark-clause-err : goal.returns-in_err-mark-clause-err
returns-in_err-mark-clause-err c =
    let there = there_at c.args.tables.now c.loop-t.t c.index-tables-t.result c.loop-t-test.true c.index-tables-t.is in
    let p = err_from_is_err_and c.from_residual.result c.from_residual.ensures.1 in
    rw (p.1, p.2) (nothing_by (λ mark. SaysMark c.args.plan.now c.loop-t.t mark c.index-tables-t.result) (AreMarksOf c.args.plan.now c.args.tables.now)
    (λ none other h. none (mark_of other c.loop-t.t) (h.each_table c.loop-t.t c.index-tables-t.result there)) c.in_err-mark.field-0.0 c.in_err-mark.ensures.err)

pub returns-then-not-add_mark-clause-err : goal.returns-then-not-add_mark-clause-err
returns-then-not-add_mark-clause-err c =
    let there = there_at c.args.tables.now c.loop-t.t c.index-tables-t.result c.loop-t-test.true c.index-tables-t.is in
    let refused = c.add_mark.ensures.refused (λ yes. true≢false (sym yes ∙ c.if-not-add_mark.true)) in
    out_of_order c.args.plan.now c.args.tables.now c.loop-t.t c.index-tables-t.result (mark_read c.in_ok-mark.mark) c.loop-t.marks there c.in_ok-mark.ensures.ok.0 refused.0 c.loop-t.invariant refused.1

pub loop-t-preserved : goal.loop-t-preserved
loop-t-preserved c =
    let there = there_at c.args.tables.now c.loop-t.t c.index-tables-t.result c.loop-t-test.true c.index-tables-t.is in
    one_more c.args.plan.now c.args.tables.now c.loop-t.t c.index-tables-t.result (mark_read c.in_ok-mark.mark) c.loop-t.marks c.add_mark.new.marks there c.in_ok-mark.ensures.ok.0
    (key_read c.args.plan.now c.in_ok-mark.mark c.in_ok-mark.ensures.ok.2) c.loop-t.invariant (c.add_mark.ensures.added c.if-not-add_mark.false)

pub returns-clause-ok : goal.returns-clause-ok
returns-clause-ok c = all_marked c.args.plan.now c.args.tables.now c.loop-t.t c.loop-t.marks c.loop-t-test.false c.loop-t.invariant
