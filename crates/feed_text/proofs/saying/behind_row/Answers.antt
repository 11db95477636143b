use Rattle.std.proofs.Common.{[], ◌∷◌, ◌++◌}
use Rattle.dump.specs.Cells.{cells}
use Rattle.feed_text.proofs.SaidLaws.{piece_behind}
use Rattle.feed_text.proofs.saying.behind_row.Goals as goal

pub returns : goal.returns
returns c =
    let a = c.args in
    piece_behind _ _ _ ((a.mark.now ++ a.table.now) ++ cells a.columns) (10 ∷ [])
    (piece_behind _ _ _ (a.mark.now ++ a.table.now) (cells a.columns) (piece_behind _ _ _ a.mark.now a.table.now (rw c.as_bytes.ensures.value at c.in_ok-name.ensures) (rw c.as_bytes-2.ensures.value at c.in_ok-cells.ensures)) c.in_ok-end.ensures)
    c.in_ok-rest.ensures
