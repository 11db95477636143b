-- The numbers by which a table map is refused (this profile).
use Rattle.std.specs.Prelude.{ℕ, Option, None, Some}
use Rattle.log_tables.specs.declared.fault.TableFault.{TableFault}
use Rattle.log_tables.specs.declared.fault.TableFault.TheVariants.{CutBody, OtherColumns, OtherType}
use Rattle.log_tables.specs.declared.fault.TableError.{TableError}
use Rattle.log_tables.specs.declared.fault.TableError.TheVariants.{Memory, Fault}

-- the number of each fault
abbrev pub number_of : TableFault → ℕ
number_of CutBody = 146
number_of OtherColumns = 148
number_of OtherType = 149

-- which fault of the definition an error is: want of memory is none
abbrev pub meant : TableError → Option TableFault
meant Memory = None
meant (Fault fault) = Some fault
