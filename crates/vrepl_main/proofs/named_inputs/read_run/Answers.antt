use Rattle.std.proofs.lemmas.Result.{err_from_is_err_and}
use Rattle.vrepl_main.proofs.InputLaws.{unread_first, unread_later}
use Rattle.vrepl_main.proofs.named_inputs.read_run.Goals as goal

pub returns-in_err-plans-clause-refused : goal.returns-in_err-plans-clause-refused
returns-in_err-plans-clause-refused g c =
    let p = err_from_is_err_and c.from_residual.result c.from_residual.ensures.1 in
    rw (p.1, p.2) (unread_first _ _ c.in_err-plans.field-0.0 c.in_err-plans.ensures.refused)

pub returns-in_err-texts-clause-refused : goal.returns-in_err-texts-clause-refused
returns-in_err-texts-clause-refused g c =
    let p = err_from_is_err_and c.from_residual-in_err-texts.result c.from_residual-in_err-texts.ensures.1 in
    rw (p.1, p.2) (unread_later _ _ c.in_err-texts.field-0.0 c.in_err-texts.ensures.refused)
