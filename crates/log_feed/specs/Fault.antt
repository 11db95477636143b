-- The numbers by which changes are refused that a feed can't tell (this profile).
use Rattle.std.specs.Prelude.{◌≡◌, ℕ, Option, None, Some, Result, Ok, Err}
use Rattle.log_tables.specs.declared.fault.TableFault.{TableFault}
use Rattle.log_tables.specs.Fault as tables
use Rattle.log_values.specs.Value as values
use Rattle.log_rows.specs.declared.fault.RowError.{RowError}
use Rattle.log_rows.specs.declared.fault.RowError.TheVariants as row_error
use Rattle.log_feed.specs.declared.fault.Trouble.{Trouble}
use Rattle.log_feed.specs.declared.fault.Trouble.TheVariants.{Columns, NotAll, Value, TooLong, NotMade, Altered}
use Rattle.log_feed.specs.declared.fault.TroubleError.{TroubleError}
use Rattle.log_feed.specs.declared.fault.TroubleError.TheVariants.{Memory, Is}
use Rattle.log_feed.specs.declared.fault.ChangeFault.{ChangeFault}
use Rattle.log_feed.specs.declared.fault.ChangeError.{ChangeError}
use Rattle.log_feed.specs.declared.fault.ChangeError.TheVariants as change_error

-- the number of each
abbrev pub number_of : Trouble → ℕ
number_of (Columns fault) = tables.number_of fault
number_of NotAll = 147
number_of (Value fault) = values.number_of fault
number_of TooLong = 150
number_of NotMade = 159
number_of Altered = 152

-- which of the definition's faults an error is: want of memory is none
abbrev pub trouble_meant : TroubleError → Option Trouble
trouble_meant Memory = None
trouble_meant (Is trouble) = Some trouble

abbrev pub meant : ChangeError → Option ChangeFault
meant change_error.Memory = None
meant (change_error.Fault fault) = Some fault

-- what is read of a table's columns
abbrev pub of_columns : {A : Type 0} → Result A TableFault → Result A Trouble
of_columns (Ok x) = Ok x
of_columns (Err fault) = Err (Columns fault)

-- what is told of the table at this place
abbrev pub in_table : {A : Type 0} → ℕ → Result A Trouble → Result A ChangeFault
in_table t (Ok x) = Ok x
in_table t (Err trouble) = Err (record { trouble = trouble; table = t })

-- what is wrong with a table, with its place
abbrev pub IsOfTable : ℕ → TroubleError → ChangeError → Type 0
IsOfTable t Memory error = error ≡ change_error.Memory
IsOfTable t (Is trouble) error = error ≡ change_error.Fault (record { trouble = trouble; table = t })

-- what is wrong with a row
abbrev pub trouble_of : RowError → TroubleError
trouble_of row_error.Memory = Memory
trouble_of (row_error.Fault fault) = Is (Value fault)
