use Rattle.std.specs.Prelude.{decimal}
use Rattle.std.proofs.lemmas.Result.{err_from_is_err_and}
use Rattle.printing.proofs.PrintLaws.{adding_breaks, then_adds}
use Rattle.vrepl_feed.proofs.refusal.add_named.Goals as goal

pub returns-in_err-put : goal.returns-in_err-put
returns-in_err-put g c =
    let p = err_from_is_err_and c.from_residual.result c.from_residual.ensures.1 in
    rw p.1 (adding_breaks _ _ c.args.text.now c.args.word.now (decimal c.args.number) (rw c.as_bytes.ensures.value at c.in_err-put.ensures))

pub returns : goal.returns
returns g c = then_adds c.put-2.result _ _ _ _ _ _ c.args.word.now (decimal c.args.number) (rw c.as_bytes.ensures.value at c.in_ok-put.ensures) (rw (c.as_bytes-2.ensures.value, c.format.ensures.text) at c.put-2.ensures)
