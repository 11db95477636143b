use Rattle.std.proofs.Common.{[], ◌∷◌, map}
use Rattle.std.proofs.lemmas.Result.{err_from_is_err_and}
use Rattle.vrepl_main.specs.declared.input.InputName.TheVariants.{File, Standard}
use Rattle.vrepl_main.proofs.InputLaws.{unread_before, unread_behind, unread_first, unread_later}
use Rattle.vrepl_main.proofs.named_inputs.read_step.Goals as goal

pub returns-in_err-plans-clause-refused : goal.returns-in_err-plans-clause-refused
returns-in_err-plans-clause-refused g c =
    let p = err_from_is_err_and c.from_residual.result c.from_residual.ensures.1 in
    rw (p.1, p.2) (unread_first _ _ c.in_err-plans.field-0.0 c.in_err-plans.ensures.refused)

pub returns-in_err-texts-clause-refused : goal.returns-in_err-texts-clause-refused
returns-in_err-texts-clause-refused g c =
    let p = err_from_is_err_and c.from_residual-in_err-texts.result c.from_residual-in_err-texts.ensures.1 in
    rw (p.1, p.2) (unread_later _ _ c.in_err-texts.field-0.0 (unread_before (map File c.args.feeds.now) (Standard ∷ []) c.in_err-texts.field-0.0 c.in_err-texts.ensures.refused))

pub returns-in_err-script-clause-refused : goal.returns-in_err-script-clause-refused
returns-in_err-script-clause-refused g c =
    let p = err_from_is_err_and c.from_residual-in_err-script.result c.from_residual-in_err-script.ensures.1 in
    rw (p.1, p.2) (unread_later _ _ c.in_err-script.field-0.0 (unread_behind (map File c.args.feeds.now) (Standard ∷ []) c.in_err-script.field-0.0 (unread_first Standard [] c.in_err-script.field-0.0 c.in_err-script.ensures.refused)))
