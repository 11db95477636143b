use Rattle.std.proofs.Common.{[], ◌∷◌, ◌++◌, map}
use Rattle.std.proofs.lemmas.Result.{err_from_is_err_and}
use Rattle.vrepl_main.specs.declared.input.InputName.TheVariants.{File, Standard}
use Rattle.vrepl_main.proofs.InputLaws.{unread_first, unread_later}
use Rattle.vrepl_main.proofs.named_inputs.read_resume.Goals as goal

pub returns-in_err-saved-clause-refused : goal.returns-in_err-saved-clause-refused
returns-in_err-saved-clause-refused g c =
    let p = err_from_is_err_and c.from_residual.result c.from_residual.ensures.1 in
    rw (p.1, p.2) (unread_first (File c.args.checkpoint) (File c.args.workflow ∷ (map File c.args.feeds.now ++ Standard ∷ [])) c.in_err-saved.field-0.0 c.in_err-saved.ensures.refused)

pub returns-in_err-step-clause-refused : goal.returns-in_err-step-clause-refused
returns-in_err-step-clause-refused g c =
    let p = err_from_is_err_and c.from_residual-in_err-step.result c.from_residual-in_err-step.ensures.1 in
    rw (p.1, p.2) (unread_later (File c.args.checkpoint) (File c.args.workflow ∷ (map File c.args.feeds.now ++ Standard ∷ [])) c.in_err-step.field-0.0 c.in_err-step.ensures.refused)
