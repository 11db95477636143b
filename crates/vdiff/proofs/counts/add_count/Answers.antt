use Rattle.std.proofs.Common.{◌++◌}
use Rattle.std.proofs.lemmas.Result.{err_from_is_err_and}
use Rattle.std.specs.Prelude.{decimal}
use Rattle.printing.proofs.PrintLaws.{adding_breaks, added_breaks, added_more, then_adds}
use Rattle.vdiff.proofs.counts.add_count.Goals as goal

pub returns-in_err-put_str : goal.returns-in_err-put_str
returns-in_err-put_str g c =
    let t2 = c.args.name.now ++ (decimal c.args.count) in
    let p = err_from_is_err_and c.from_residual.result c.from_residual.ensures.1 in
    rw p.1 (adding_breaks _ _ c.args.text.now t2 c.args.behind.now (adding_breaks _ _ c.args.text.now c.args.name.now (decimal c.args.count) c.in_err-put_str.ensures))

pub returns-in_err-put_number : goal.returns-in_err-put_number
returns-in_err-put_number g c =
    let t2 = c.args.name.now ++ (decimal c.args.count) in
    let p = err_from_is_err_and c.from_residual-in_err-put_number.result c.from_residual-in_err-put_number.ensures.1 in
    rw p.1 (adding_breaks _ _ c.args.text.now t2 c.args.behind.now (added_breaks _ _ _ _ _ c.args.name.now (decimal c.args.count) c.in_ok-put_str.ensures c.in_err-put_number.ensures))

pub returns : goal.returns
returns g c =
    let t2 = c.args.name.now ++ (decimal c.args.count) in
    then_adds c.put_str-2.result _ _ _ _ _ _ t2 c.args.behind.now (added_more _ _ _ _ _ _ c.args.name.now (decimal c.args.count) c.in_ok-put_str.ensures c.in_ok-put_number.ensures) c.put_str-2.ensures
