use Rattle.std.proofs.Common.{◌≡◌, ◌+◌, length}
use Rattle.target_tables.specs.Merged.{comes_from, part_of}
use Rattle.target_tables.proofs.side_part.count_from.Given as goal

abbrev pub invariant-loop-stream : goal.invariant-loop-stream
invariant-loop-stream g l = l.count + length (part_of (comes_from l.sides l.side) l.rows) ≡ length (part_of (comes_from l.sides l.side) l.fn.rows)

abbrev pub decreases-loop-stream : goal.decreases-loop-stream
decreases-loop-stream g l = length l.rows
