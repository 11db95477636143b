use Rattle.std.proofs.Common.{◌-◌, ◌∙◌, ap, sym, Err}
use Rattle.std.proofs.lemmas.Result.{err_from_is_err_and}
use Rattle.dump.proofs.ReadingLaws.{err_is, row_taken, no_row_taken, none_of_none, none_of_limits, row_begins}
use Rattle.dump.proofs.row_cells.take_row.Goals as goal

pub returns-in_err-rest-clause-bad : goal.returns-in_err-rest-clause-bad
returns-in_err-rest-clause-bad c =
    let p = err_from_is_err_and c.from_residual.result c.from_residual.ensures.1 in
    λ e. no_row_taken _ _ c.requires (none_of_none (c.args.width - 1) c.args.text.now (c.in_err-rest.ensures.bad (ap Err (sym p.2 ∙ err_is _ _ _ p.1 e))))

pub returns-in_err-write_over-clause-bad : goal.returns-in_err-write_over-clause-bad
returns-in_err-write_over-clause-bad c =
    let p = err_from_is_err_and c.from_residual-in_err-write_over.result c.from_residual-in_err-write_over.ensures.1 in
    λ e. no_row_taken _ _ c.requires (none_of_limits (c.args.width - 1) c.args.text.now _ _ c.in_ok-rest.ensures.taken (c.in_err-write_over.ensures.bad (ap Err (sym p.2 ∙ err_is _ _ _ p.1 e))))

pub returns-clause-taken : goal.returns-clause-taken
returns-clause-taken c =
    let row = c.in_ok-write_over.ensures.row in
    (_, row.0, row_taken _ _ _ _ c.requires c.in_ok-rest.ensures.taken row.1)

pub returns-in_err-rest-clause-memory : goal.returns-in_err-rest-clause-memory
returns-in_err-rest-clause-memory c =
    let p = err_from_is_err_and c.from_residual.result c.from_residual.ensures.1 in
    λ e. c.in_err-rest.ensures.memory (ap Err (sym p.2 ∙ err_is _ _ _ p.1 e))

pub returns-in_err-write_over-clause-memory : goal.returns-in_err-write_over-clause-memory
returns-in_err-write_over-clause-memory c = λ e. row_begins (c.args.width - 1) c.args.text.now _ c.in_ok-rest.ensures.taken
