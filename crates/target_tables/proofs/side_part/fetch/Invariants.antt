use Rattle.std.proofs.Common.{◌≡◌, length}
use Rattle.target_tables.specs.Merged.{comes_from, part_of}
use Rattle.target_tables.proofs.side_part.fetch.Given as goal

abbrev pub invariant-loop-entry : goal.invariant-loop-entry
invariant-loop-entry g l = part_of (comes_from l.sides l.side) l.later ≡ part_of (comes_from l.sides l.side) l.fn.later

abbrev pub decreases-loop-entry : goal.decreases-loop-entry
decreases-loop-entry g l = length l.later
