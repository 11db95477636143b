-- The numbers of refusals of a file that grows (this profile).
use Rattle.std.specs.Prelude.{ℕ}
use Rattle.grown_file.specs.declared.fault.GrownFault.{GrownFault}
use Rattle.grown_file.specs.declared.fault.GrownFault.TheVariants.{Other, CannotRead, Memory}

-- the number of each fault
abbrev pub number_of : GrownFault → ℕ
number_of Other = 127
number_of CannotRead = 131
number_of Memory = 72
