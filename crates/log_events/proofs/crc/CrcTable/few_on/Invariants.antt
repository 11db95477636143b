use Rattle.std.proofs.Common.{◌≡◌, drop}
use Rattle.log_events.specs.Crc.{crc_from}
use Rattle.log_events.proofs.crc.CrcTable.few_on.Given as goal

-- the remainder so far, and what the other bytes make of it
abbrev pub invariant-loop-byte : goal.invariant-loop-byte
invariant-loop-byte l = crc_from l.sum (drop l.byte-index l.bytes) ≡ crc_from l.fn.sum l.bytes
