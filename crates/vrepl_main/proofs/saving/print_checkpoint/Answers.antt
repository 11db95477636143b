use Rattle.std.proofs.lemmas.Result.{err_from_is_err_and}
use Rattle.vrepl_main.specs.SavedBoard.{IsSavedText}
use Rattle.vrepl_main.proofs.CommandLaws.{refuses}
use Rattle.vrepl_main.proofs.SaveLaws.{unwritten_save}
use Rattle.vrepl_main.proofs.saving.print_checkpoint.Goals as goal

pub returns-in_err-saved-clause-refused : goal.returns-in_err-saved-clause-refused
returns-in_err-saved-clause-refused g c =
    let p = err_from_is_err_and c.from_residual.result c.from_residual.ensures.1 in
    rw (p.1, p.2) (refuses IsSavedText _ _ _ c.in_err-saved.ensures.refused)

pub returns-in_err-print_bytes-clause-refused : goal.returns-in_err-print_bytes-clause-refused
returns-in_err-print_bytes-clause-refused g c =
    let p = err_from_is_err_and c.from_residual-in_err-print_bytes.result c.from_residual-in_err-print_bytes.ensures.1 in
    rw p.1 (unwritten_save _ p.0 c.in_ok-saved.saved _ _ c.in_ok-saved.ensures.saved (rw c.deref.ensures.value at c.in_err-print_bytes.ensures) p.2)

pub returns-clause-printed : goal.returns-clause-printed
returns-clause-printed g c = rw c.deref.ensures.value at c.in_ok-print_bytes.ensures
