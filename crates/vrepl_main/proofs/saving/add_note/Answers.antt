use Rattle.std.proofs.Common.{◌++◌}
use Rattle.std.proofs.lemmas.Result.{err_from_is_err_and}
use Rattle.std.specs.Prelude.{codes, decimal}
use Rattle.vrepl_main.proofs.AddLaws.{first_stops, then_prints}
use Rattle.vrepl_main.proofs.saving.add_note.Goals as goal

pub returns-in_err-put_number : goal.returns-in_err-put_number
returns-in_err-put_number g c =
    let p = err_from_is_err_and c.from_residual.result c.from_residual.ensures.1 in
    rw p.1 (first_stops _ _ (decimal c.args.refused) (codes " of " ++ decimal c.args.steps ++ codes " steps were refused\n") c.in_err-put_number.ensures)

pub returns : goal.returns
returns g c =
    then_prints c.put_between.result _ _ _ (decimal c.args.refused) (codes " of " ++ decimal c.args.steps ++ codes " steps were refused\n") c.in_ok-put_number.ensures c.put_between.ensures
