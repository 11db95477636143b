use Rattle.std.proofs.Common.{[], ◌∷◌, ◌++◌}
use Rattle.std.specs.Prelude.{codes, decimal}
use Rattle.gtid_set.specs.Printed.{printed_position}
use Rattle.feed_text.proofs.SaidLaws.{piece_behind}
use Rattle.feed_text.proofs.saying.behind_group_line.Goals as goal

pub returns : goal.returns
returns c =
    let group = c.args.group.now in
    piece_behind _ _ _ (((codes "group " ++ decimal group.number) ++ codes " ") ++ printed_position group.position) (10 ∷ [])
    (piece_behind _ _ _ ((codes "group " ++ decimal group.number) ++ codes " ") (printed_position group.position)
    (piece_behind _ _ _ (codes "group " ++ decimal group.number) (codes " ")
    (piece_behind _ _ _ (codes "group ") (decimal group.number) c.in_ok-number.ensures (rw (c.from.ensures, c.number.ensures) at c.in_ok-blank.ensures))
    c.in_ok-position.ensures)
    (rw c.position.ensures at c.in_ok-end.ensures))
    c.in_ok-rest.ensures
