use Rattle.std.proofs.Common.{◌++◌}
use Rattle.std.proofs.lemmas.Result.{err_from_is_err_and}
use Rattle.std.specs.Prelude.{codes, decimal}
use Rattle.vrepl_main.proofs.AddLaws.{first_stops, then_prints}
use Rattle.vrepl_main.proofs.state_text.print_tables.Goals as goal

pub returns-in_err-put_named : goal.returns-in_err-put_named
returns-in_err-put_named g c =
    let now = c.args.now.now in
    let p = err_from_is_err_and c.from_residual.result c.from_residual.ensures.1 in
    rw p.1 (first_stops _ _ (codes " done " ++ decimal now.done) (codes " of " ++ decimal now.tables) (rw (c.from.ensures, c.done.ensures) at c.in_err-put_named.ensures))

pub returns : goal.returns
returns g c =
    let now = c.args.now.now in
    then_prints c.put_named-2.result _ _ _ (codes " done " ++ decimal now.done) (codes " of " ++ decimal now.tables) (rw (c.from.ensures, c.done.ensures) at c.in_ok-put_named.ensures)
    (rw (c.from-2.ensures, c.tables.ensures) at c.put_named-2.ensures)
