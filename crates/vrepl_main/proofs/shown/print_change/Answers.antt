use Rattle.std.specs.Prelude.{codes}
use Rattle.feed_text.specs.Shown.{shown_row_lines}
use Rattle.std.proofs.lemmas.Result.{err_from_is_err_and}
use Rattle.vrepl_main.proofs.AddLaws.{first_stops, then_prints}
use Rattle.vrepl_main.proofs.shown.print_change.Goals as goal

pub returns-in_err-print_row_if : goal.returns-in_err-print_row_if
returns-in_err-print_row_if g c =
    let change = c.args.change.now in
    let p = err_from_is_err_and c.from_residual.result c.from_residual.ensures.1 in
    rw p.1 (first_stops _ _ (shown_row_lines (codes "- ") change.table change.before) (shown_row_lines (codes "+ ") change.table change.after) (rw (c.table.ensures, c.before_bytes.ensures) at c.in_err-print_row_if.ensures))

pub returns : goal.returns
returns g c =
    let change = c.args.change.now in
    then_prints c.print_row_if-2.result _ _ _ (shown_row_lines (codes "- ") change.table change.before) (shown_row_lines (codes "+ ") change.table change.after) (rw (c.table.ensures, c.before_bytes.ensures) at c.in_ok-print_row_if.ensures) ((rw (c.table-2.ensures, c.after_bytes.ensures) at c.print_row_if-2.ensures))
