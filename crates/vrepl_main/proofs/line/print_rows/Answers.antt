use Rattle.std.proofs.Common.{[], Err}
use Rattle.std.proofs.lemmas.Result.{err_from_is_err_and}
use Rattle.apply_core.specs.Shown.{all_rows}
use Rattle.dump.specs.Dump.{dump_of}
use Rattle.printing.proofs.PrintLaws.{adds_none_written, first_breaks, prints_adds, then_adds}
use Rattle.vrepl_main.proofs.AddLaws.{added}
use Rattle.vrepl_main.proofs.line.print_rows.Goals as goal

pub returns-in_err-finish : goal.returns-in_err-finish
returns-in_err-finish g c =
    let text = dump_of c.args.plan.now (all_rows c.args.fed.now.board.rows) in
    let p = err_from_is_err_and c.from_residual.result c.from_residual.ensures.1 in
    rw p.1 (added {X = Unit {0}} (Err p.0) _ c.args.text.now _ _ text (first_breaks _ _ c.args.text.now text c.in_err-finish.ensures.printed))

pub returns : goal.returns
returns g c =
    let text = dump_of c.args.plan.now (all_rows c.args.fed.now.board.rows) in
    rw c.in_ok-finish.ensures.empty
    (added c.write_rows.result _ c.args.text.now _ [] text
    (then_adds c.write_rows.result _ c.args.text.now _ [] _ [] [] text
    (adds_none_written _ _ c.args.text.now c.in_ok-finish.ensures.printed)
    (prints_adds c.write_rows.result _ _ text (rw c.board.ensures.board at c.write_rows.ensures))))
