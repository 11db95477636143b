use Rattle.std.proofs.Common.{◌++◌}
use Rattle.std.proofs.lemmas.Result.{err_from_is_err_and}
use Rattle.std.specs.Prelude.{codes, decimal}
use Rattle.vrepl_main.proofs.AddLaws.{first_stops, then_prints}
use Rattle.vrepl_main.proofs.refusal.print_rule.Goals as goal

pub returns-in_err-put_named : goal.returns-in_err-put_named
returns-in_err-put_named g c =
    let p = err_from_is_err_and c.from_residual.result c.from_residual.ensures.1 in
    rw p.1 (first_stops _ _ (codes " stream " ++ decimal c.args.stream) (codes " rule " ++ decimal c.args.rule) c.in_err-put_named.ensures)

pub returns : goal.returns
returns g c = then_prints c.put_named-2.result _ _ _ (codes " stream " ++ decimal c.args.stream) (codes " rule " ++ decimal c.args.rule) c.in_ok-put_named.ensures c.put_named-2.ensures
