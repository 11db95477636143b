-- The numbers by which a row event is refused (this profile).
use Rattle.std.specs.Prelude.{ℕ, Result, Ok, Err}
use Rattle.log_tables.specs.declared.fault.TableFault.{TableFault}
use Rattle.log_rows.specs.declared.fault.RowFault.{RowFault}
use Rattle.log_rows.specs.declared.fault.RowFault.TheVariants.{CutHead, NotAllColumns, Value}
use Rattle.log_values.specs.Value as value

-- the number of each fault
abbrev pub number_of : RowFault → ℕ
number_of CutHead = 146
number_of NotAllColumns = 147
number_of (Value fault) = value.number_of fault

-- what is read of the parts of a body
abbrev pub of_part : {A : Type 0} → Result A TableFault → Result A RowFault
of_part (Ok x) = Ok x
of_part (Err fault) = Err CutHead
