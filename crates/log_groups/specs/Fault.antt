-- The numbers by which a log is refused whose events make no transactions (this profile).
use Rattle.std.specs.Prelude.{ℕ, Option, None, Some, Result, Ok, Err}
use Rattle.log_events.specs.FaultNumber.{number_of_event}
use Rattle.log_tables.specs.declared.fault.TableFault.{TableFault}
use Rattle.log_rows.specs.declared.fault.RowFault.{RowFault}
use Rattle.log_rows.specs.Fault as rows
use Rattle.log_groups.specs.declared.fault.GroupFault.{GroupFault}
use Rattle.log_groups.specs.declared.fault.GroupFault.TheVariants.{Event, Body, Head, Refused, Statement, Outside, NoTable, NoSavepoint, Unended, Twice, NotPrepared, StillPrepared}
use Rattle.log_groups.specs.declared.fault.GroupError.{GroupError}
use Rattle.log_groups.specs.declared.fault.GroupError.TheVariants.{Memory, Fault}

-- the number of each fault
abbrev pub number_of : GroupFault → ℕ
number_of (Event fault) = number_of_event fault
number_of Body = 146
number_of (Head fault) = rows.number_of fault
number_of (Refused number) = number
number_of Statement = 151
number_of Outside = 156
number_of NoTable = 156
number_of NoSavepoint = 156
number_of Unended = 156
number_of Twice = 156
number_of NotPrepared = 156
number_of StillPrepared = 156

-- which fault of the definition an error is: want of memory is none
abbrev pub meant : GroupError → Option GroupFault
meant Memory = None
meant (Fault fault) = Some fault

-- what is read of the body of an event without rows
abbrev pub of_body : {A : Type 0} → Result A TableFault → Result A GroupFault
of_body (Ok x) = Ok x
of_body (Err fault) = Err Body

-- what is read before the rows of one
abbrev pub of_head : {A : Type 0} → Result A RowFault → Result A GroupFault
of_head (Ok x) = Ok x
of_head (Err fault) = Err (Head fault)
