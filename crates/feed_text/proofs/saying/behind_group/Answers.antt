use Rattle.feed_text.specs.Shown.{group_line, changes_text}
use Rattle.feed_text.proofs.SaidLaws.{piece_behind}
use Rattle.feed_text.proofs.saying.behind_group.Goals as goal

pub returns : goal.returns
returns c =
    let group = c.args.group.now in
    piece_behind _ _ _ (group_line group) (changes_text group.changes) c.in_ok-changes.ensures (rw c.changes.ensures at c.in_ok-rest.ensures)
