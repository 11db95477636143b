-- The numbers of the faults of a dump's text (this profile).
use Rattle.std.specs.Prelude.{ℕ}
use Rattle.dump.specs.declared.reading.DumpFault.{DumpFault}
use Rattle.dump.specs.declared.reading.DumpFault.TheVariants.{BadDump, Memory}

abbrev pub number_of : DumpFault → ℕ
number_of (BadDump line) = 121
number_of Memory = 72
