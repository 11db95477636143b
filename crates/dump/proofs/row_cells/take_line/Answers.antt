use Rattle.std.proofs.Common.{◌∙◌, ap, sym, Err}
use Rattle.std.proofs.lemmas.Result.{err_from_is_err_and}
use Rattle.dump.proofs.ReadingLaws.{line_taken, line_no_first, line_no_others, line_no_end, err_is, cell_begins}
use Rattle.dump.proofs.row_cells.take_line.Goals as goal

pub returns-in_err-others-clause-bad : goal.returns-in_err-others-clause-bad
returns-in_err-others-clause-bad c =
    let p = err_from_is_err_and c.from_residual.result c.from_residual.ensures.1 in
    λ e. line_no_first c.args.count c.args.text.now (c.in_err-others.ensures.bad (ap Err (sym p.2 ∙ err_is _ _ _ p.1 e)))

pub returns-in_err-end-clause-bad : goal.returns-in_err-end-clause-bad
returns-in_err-end-clause-bad c =
    let p = err_from_is_err_and c.from_residual-in_err-end.result c.from_residual-in_err-end.ensures.1 in
    λ e. line_no_others c.args.count _ _ c.args.text.now _ c.in_ok-others.ensures.taken (c.in_err-end.ensures.bad (ap Err (sym p.2 ∙ err_is _ _ _ p.1 e)))

pub returns-in_err-rest-clause-bad : goal.returns-in_err-rest-clause-bad
returns-in_err-rest-clause-bad c = λ e. line_no_end _ _ _ _ _ _ _ c.in_ok-others.ensures.taken c.in_ok-end.ensures.taken c.in_err-rest.ensures.bad

pub returns-clause-taken : goal.returns-clause-taken
returns-clause-taken c = line_taken _ _ _ _ _ _ _ _ c.clear.ensures c.in_ok-others.ensures.taken c.in_ok-end.ensures.taken c.in_ok-rest.ensures.taken

pub returns-in_err-others-clause-memory : goal.returns-in_err-others-clause-memory
returns-in_err-others-clause-memory c =
    let p = err_from_is_err_and c.from_residual.result c.from_residual.ensures.1 in
    λ e. c.in_err-others.ensures.memory (ap Err (sym p.2 ∙ err_is _ _ _ p.1 e))

pub returns-in_err-end-clause-memory : goal.returns-in_err-end-clause-memory
returns-in_err-end-clause-memory c = λ e. cell_begins c.args.text.now _ c.in_ok-others.ensures.taken.front

pub returns-in_err-rest-clause-memory : goal.returns-in_err-rest-clause-memory
returns-in_err-rest-clause-memory c = λ e. cell_begins c.args.text.now _ c.in_ok-others.ensures.taken.front
