use Rattle.std.proofs.lemmas.Result.{err_from_is_err_and}
use Rattle.apply_core.proofs.SoundEnds.{lowest-none}
use Rattle.stream_worker.proofs.parallel.run_parallel.Goals as goal

pub returns-in_err-board-clause-lowest : goal.returns-in_err-board-clause-lowest
returns-in_err-board-clause-lowest g c =
    let p = err_from_is_err_and c.from_residual.result c.from_residual.ensures.1 in
    rw (p.1, p.2) (lowest-none c.args.feeds.now c.in_err-board.field-0.0 c.in_err-board.ensures.of_none)
