use Rattle.std.proofs.lemmas.Result.{err_from_is_err_and}
use Rattle.apply_core.proofs.SoundEnds.{lowest-none, lower-can_end, none-can_end}
use Rattle.apply_core.proofs.alone.run_alone.Goals as goal

pub returns-in_err-board-clause-lowest : goal.returns-in_err-board-clause-lowest
returns-in_err-board-clause-lowest c =
    let p = err_from_is_err_and c.from_residual.result c.from_residual.ensures.1 in
    rw (p.1, p.2) (lowest-none c.args.feeds.now c.in_err-board.field-0.0 c.in_err-board.ensures.of_none)

pub returns-in_err-board-clause-lower : goal.returns-in_err-board-clause-lower
returns-in_err-board-clause-lower c =
    let p = err_from_is_err_and c.from_residual.result c.from_residual.ensures.1 in
    rw (p.1, p.2) (none-can_end c.args.feeds.now c.in_err-board.field-0.0 c.in_err-board.ensures.of_none)

pub returns-in_err-run_all-clause-lower : goal.returns-in_err-run_all-clause-lower
returns-in_err-run_all-clause-lower c =
    let p = err_from_is_err_and c.from_residual-in_err-run_all.result c.from_residual-in_err-run_all.ensures.1 in
    rw (p.1, p.2) (lower-can_end c.args.feeds.now c.run_all.new.board c.run_all.ensures.fed c.in_err-run_all.field-0.0 c.in_err-run_all.ensures.lower)
