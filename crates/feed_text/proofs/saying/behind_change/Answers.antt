use Rattle.std.specs.Prelude.{codes}
use Rattle.feed_text.specs.Shown.{shown_row_lines}
use Rattle.feed_text.proofs.SaidLaws.{piece_behind}
use Rattle.feed_text.proofs.saying.behind_change.Goals as goal

pub returns : goal.returns
returns c =
    let change = c.args.change.now in
    piece_behind _ _ _ (shown_row_lines (codes "- ") change.table change.before) (shown_row_lines (codes "+ ") change.table change.after)
    (rw (c.table-table.ensures, c.before_bytes.ensures) at c.in_ok-after.ensures) (rw (c.table-table.ensures, c.after_bytes.ensures) at c.in_ok-rest.ensures)
