use Rattle.log_events.proofs.CrcAhead.{IsFront}
use Rattle.log_events.proofs.crc.CrcTable.new.Given as goal

abbrev pub invariant-loop-place : goal.invariant-loop-place
invariant-loop-place l = IsFront l.entries.items l.place
