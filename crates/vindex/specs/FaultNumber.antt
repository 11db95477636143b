-- The numbers by which key ranges, vindex names and ids are refused (this profile).
use Rattle.std.specs.Prelude.{ℕ}
use Rattle.vindex.specs.declared.faults.VindexFault.{VindexFault}
use Rattle.vindex.specs.declared.faults.VindexFault.TheVariants.{BadRange, UnknownVindex, NullValue, NotANumber, Memory}

abbrev pub number_of_fault : VindexFault → ℕ
number_of_fault BadRange = 41
number_of_fault UnknownVindex = 42
number_of_fault NullValue = 43
number_of_fault NotANumber = 44
number_of_fault Memory = 72
