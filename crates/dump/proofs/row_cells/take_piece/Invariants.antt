use Rattle.std.proofs.Common.{◌≡◌, ◌*◌, length, take, drop}
use Rattle.dump.specs.Private.Reading.{bytes_front, with_bytes}
use Rattle.dump.proofs.row_cells.take_piece.Given as goal

-- the bytes that are written, and those that are still to come, are all
abbrev pub invariant-loop-i : goal.invariant-loop-i
invariant-loop-i l =
    (bytes_front l.text ≡ with_bytes (take l.i l.room) (bytes_front (drop (2 * l.i) l.text)))
    × (length l.room ≡ length l.fn.room)
