use Rattle.std.proofs.Common.{◌≡◌, length}
use Rattle.log_events.specs.Crc.{crc_from}
use Rattle.log_events.proofs.crc.CrcTable.go_on.Given as goal

-- what is left makes of the remainder so far what all bytes make of the first
abbrev pub invariant-loop-eight : goal.invariant-loop-eight
invariant-loop-eight l = crc_from l.sum l.left ≡ crc_from l.fn.sum l.bytes

abbrev pub decreases-loop-eight : goal.decreases-loop-eight
decreases-loop-eight l = length l.left
