use Rattle.std.proofs.lemmas.Result.{err_from_is_err_and}
use Rattle.vrepl_main.proofs.ScriptRunLaws.{run_finishes, run_breaks}
use Rattle.vrepl_main.proofs.stepping.print_taken.Goals as goal

pub returns-in_err-take_lines : goal.returns-in_err-take_lines
returns-in_err-take_lines g c =
    let p = err_from_is_err_and c.from_residual.result c.from_residual.ensures.1 in
    rw p.1 (run_breaks _ _ _ _ _ _ _ (rw c.new-text.ensures at c.in_err-take_lines.ensures.replies))

pub returns : goal.returns
returns g c = run_finishes c.finish.result _ _ _ _ _ _ _ (rw c.new-text.ensures at c.in_ok-take_lines.ensures.replies) c.finish.ensures.printed
