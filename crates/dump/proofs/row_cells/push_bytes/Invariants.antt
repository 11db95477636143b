use Rattle.std.proofs.Common.{◌≡◌, ◌≤◌, length}
use Rattle.dump.specs.Private.Reading.{bytes_front, with_bytes}
use Rattle.dump.proofs.row_cells.push_bytes.Given as goal

-- the bytes that are pushed, and those that are still to come, are all
abbrev pub invariant-loop-rest : goal.invariant-loop-rest
invariant-loop-rest l =
    (with_bytes l.fn.bytes.items (bytes_front l.fn.text) ≡ with_bytes l.bytes.items (bytes_front l.rest))
    × (length l.fn.bytes.items ≤ length l.bytes.items)

abbrev pub decreases-loop-rest : goal.decreases-loop-rest
decreases-loop-rest l = length l.rest
