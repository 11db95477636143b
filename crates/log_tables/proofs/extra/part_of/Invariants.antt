use Rattle.std.proofs.Common.{◌≡◌, length}
use Rattle.item_readers.specs.Reading.{reading_of}
use Rattle.log_tables.specs.Extra.{part_at, last_part, part_of}
use Rattle.log_tables.proofs.extra.part_of.Given as goal

-- the last part of the rest, or else what was found
abbrev pub invariant-loop-left : goal.invariant-loop-left
invariant-loop-left l = last_part l.kind l.found (reading_of part_at l.left).items (reading_of part_at l.left).fault ≡ part_of l.kind l.fn.bytes

abbrev pub decreases-loop-left : goal.decreases-loop-left
decreases-loop-left l = length l.left
