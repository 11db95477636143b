use Rattle.std.proofs.Common.{◌∙◌, sym}
use Rattle.std.proofs.lemmas.Bool.{true≢false}
use Rattle.std.proofs.lemmas.Result.{err_from_is_err_and}
use Rattle.source_feed.specs.GroupValue.{Position}
use Rattle.checkpoint_core.specs.Private.Reading.{OfEachTable, IsAtPosition, AreMarksOf, AreRows, rows_from, SayTables}
use Rattle.checkpoint_core.proofs.Items.{nothing_by}
use Rattle.checkpoint_core.proofs.ReadLaws.{tables_said, names_of, position_of, marks_of, rows_of, heads_at}
use Rattle.checkpoint_core.proofs.reading.read_tables.Goals as goal

pub returns-in_err-position-clause-err : goal.returns-in_err-position-clause-err
returns-in_err-position-clause-err c =
    let p = err_from_is_err_and c.from_residual.result c.from_residual.ensures.1 in
    rw (p.1, p.2) (nothing_by (λ (position : Position). OfEachTable (IsAtPosition position) c.args.tables.now) (SayTables c.args.version c.args.plan.now c.args.tables.now)
    (λ none saved h. none saved.position (position_of c.args.version c.args.plan.now c.args.tables.now saved h)) c.in_err-position.field-0.0 c.in_err-position.ensures.err)

pub returns-then-not-have_names-clause-err : goal.returns-then-not-have_names-clause-err
returns-then-not-have_names-clause-err c = λ saved h. true≢false (sym (c.have_names.ensures.1 (names_of c.args.version c.args.plan.now c.args.tables.now saved h)) ∙ c.if-not-have_names.true)

pub returns-then-not-branch-clause-err : goal.returns-then-not-branch-clause-err
returns-then-not-branch-clause-err c = λ saved h.
    true≢false (sym (c.in_ok-have_heads.ensures.1 (heads_at c.args.version c.args.plan.now c.args.tables.now saved h c.in_ok-position.position c.requires.some c.in_ok-position.ensures.ok)) ∙ c.if-not-branch.true)

pub returns-in_err-marks-clause-err : goal.returns-in_err-marks-clause-err
returns-in_err-marks-clause-err c =
    let p = err_from_is_err_and c.from_residual-in_err-marks.result c.from_residual-in_err-marks.ensures.1 in
    rw (p.1, p.2) (nothing_by (AreMarksOf c.args.plan.now c.args.tables.now) (SayTables c.args.version c.args.plan.now c.args.tables.now)
    (λ none saved h. none saved.marks (marks_of c.args.version c.args.plan.now c.args.tables.now saved h)) c.in_err-marks.field-0.0 c.in_err-marks.ensures.err)

pub returns-in_err-rows-clause-err : goal.returns-in_err-rows-clause-err
returns-in_err-rows-clause-err c =
    let p = err_from_is_err_and c.from_residual-in_err-rows.result c.from_residual-in_err-rows.ensures.1 in
    rw (p.1, p.2) (nothing_by (AreRows c.args.plan.now (rows_from 0 c.args.tables.now)) (SayTables c.args.version c.args.plan.now c.args.tables.now)
    (λ none saved h. none saved.rows (rows_of c.args.version c.args.plan.now c.args.tables.now saved h)) c.in_err-rows.field-0.0 c.in_err-rows.ensures.err)

pub returns-clause-ok : goal.returns-clause-ok
returns-clause-ok c =
    tables_said c.args.version c.args.plan.now c.args.tables.now (record { position = c.in_ok-position.position; marks = c.in_ok-marks.marks; rows = c.in_ok-rows.rows.items })
    (c.have_names.ensures.0 c.if-not-have_names.false) (c.in_ok-have_heads.ensures.0 c.if-not-branch.false) c.in_ok-marks.ensures.ok c.in_ok-rows.ensures.ok
