use Rattle.std.proofs.lemmas.Result.{err_from_is_err_and}
use Rattle.std.specs.Prelude.{decimal}
use Rattle.vrepl_main.proofs.AddLaws.{first_stops, then_prints}
use Rattle.vrepl_main.proofs.output.put_named.Goals as goal

pub returns-in_err-put_str : goal.returns-in_err-put_str
returns-in_err-put_str g c =
    let p = err_from_is_err_and c.from_residual.result c.from_residual.ensures.1 in
    rw p.1 (first_stops _ _ c.args.word.now (decimal c.args.number) c.in_err-put_str.ensures)

pub returns : goal.returns
returns g c = then_prints c.put_number.result _ _ _ c.args.word.now (decimal c.args.number) c.in_ok-put_str.ensures c.put_number.ensures
