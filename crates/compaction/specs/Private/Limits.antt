-- What is beyond the limits, as why a base isn't written.
use Rattle.compaction.specs.declared.fault.CompactFault.{CompactFault}
use Rattle.compaction.specs.declared.fault.CompactFault.TheVariants as compact
use Rattle.compaction.specs.declared.fault.WriteFault.{WriteFault}
use Rattle.compaction.specs.declared.fault.WriteFault.TheVariants.{TooLong, Memory}

-- something is beyond the limits; or memory ran out
abbrev pub IsOverBy : Type 0 → WriteFault → Type 0
IsOverBy IsOver TooLong = IsOver
IsOverBy IsOver Memory = Unit {0}

-- why a base isn't written, as why a feed isn't compacted
abbrev pub refusal_of_write : WriteFault → CompactFault
refusal_of_write TooLong = compact.TooLong
refusal_of_write Memory = compact.Memory
