use Rattle.feed_text.specs.Shown.{group_line, changes_text}
use Rattle.std.proofs.lemmas.Result.{err_from_is_err_and}
use Rattle.vrepl_main.proofs.AddLaws.{first_stops, then_prints}
use Rattle.vrepl_main.proofs.shown.print_group.Goals as goal

pub returns-in_err-print_group_line : goal.returns-in_err-print_group_line
returns-in_err-print_group_line g c =
    let group = c.args.group.now in
    let p = err_from_is_err_and c.from_residual.result c.from_residual.ensures.1 in
    rw p.1 (first_stops _ _ (group_line group) (changes_text group.changes) c.in_err-print_group_line.ensures)

pub returns : goal.returns
returns g c =
    let group = c.args.group.now in
    then_prints c.print_changes.result _ _ _ (group_line group) (changes_text group.changes) c.in_ok-print_group_line.ensures ((rw (c.changes.ensures) at c.print_changes.ensures))
