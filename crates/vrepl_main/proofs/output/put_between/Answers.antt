use Rattle.std.proofs.Common.{◌++◌}
use Rattle.std.proofs.lemmas.Result.{err_from_is_err_and}
use Rattle.std.specs.Prelude.{decimal}
use Rattle.vrepl_main.proofs.AddLaws.{first_stops, then_prints}
use Rattle.vrepl_main.proofs.output.put_between.Goals as goal

pub returns-in_err-put_named : goal.returns-in_err-put_named
returns-in_err-put_named g c =
    let t1 = c.args.before.now ++ decimal c.args.number in
    let p = err_from_is_err_and c.from_residual.result c.from_residual.ensures.1 in
    rw p.1 (first_stops _ _ t1 c.args.behind.now c.in_err-put_named.ensures)

pub returns : goal.returns
returns g c =
    let t1 = c.args.before.now ++ decimal c.args.number in
    then_prints c.put_str.result _ _ _ t1 c.args.behind.now c.in_ok-put_named.ensures c.put_str.ensures
