use Rattle.std.proofs.Common.{arith}
use Rattle.dump.proofs.ReadingLaws.{piece_more, bytes_end}
use Rattle.dump.proofs.row_cells.push_bytes.Goals as goal

pub returns-then-count-lt-PIECE-clause-pushed : goal.returns-then-count-lt-PIECE-clause-pushed
returns-then-count-lt-PIECE-clause-pushed c =
    let none = c.take_piece-count.ensures.all (omega (arith, c.if-count-lt-PIECE.true, c.loop-rest.array_long)) in
    rw c.in_ok-extend_from_slice.ensures.items (bytes_end _ _ _ (piece_more _ _ _ _ _ c.loop-rest.invariant.0 c.take_piece-count.ensures.taken) none)
