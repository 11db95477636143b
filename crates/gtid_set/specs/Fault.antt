-- The numbers of the refusals (this profile).
use Rattle.std.specs.Prelude.{ℕ, Option, Some, None}
use Rattle.gtid_set.specs.declared.fault.GtidFault.{GtidFault}
use Rattle.gtid_set.specs.declared.fault.GtidFault.TheVariants.{TooLarge, Flavor, BadUuid, Syntax, BadNumber, Memory}

-- 36, 31, 32, 35, 33, and 72 for want of memory
abbrev pub number_of_fault : GtidFault → ℕ
number_of_fault TooLarge = 36
number_of_fault Flavor = 31
number_of_fault BadUuid = 32
number_of_fault Syntax = 35
number_of_fault BadNumber = 33
number_of_fault Memory = 72

-- the fault that a definition names, where it isn't want of memory
abbrev pub meant : GtidFault → Option GtidFault
meant Memory = None
meant fault = Some fault
