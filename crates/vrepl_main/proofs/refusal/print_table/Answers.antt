use Rattle.std.specs.Prelude.{codes}
use Rattle.std.proofs.lemmas.Result.{err_from_is_err_and}
use Rattle.vrepl_main.proofs.AddLaws.{first_stops, then_prints}
use Rattle.vrepl_main.proofs.refusal.print_table.Goals as goal

pub returns-in_err-put_all : goal.returns-in_err-put_all
returns-in_err-put_all g c =
    let table = c.args.table.now in
    let p = err_from_is_err_and c.from_residual.result c.from_residual.ensures.1 in
    rw p.1 (first_stops _ _ (codes " table ") table c.in_err-put_all.ensures)

pub returns : goal.returns
returns g c =
    let table = c.args.table.now in
    then_prints c.put_str.result _ _ _ (codes " table ") table c.in_ok-put_all.ensures c.put_str.ensures
