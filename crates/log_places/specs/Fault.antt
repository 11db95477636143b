-- The numbers by which a log is refused that doesn't stand where it has to (this profile).
use Rattle.std.specs.Prelude.{ℕ, Option, None, Some, Result, Ok, Err}
use Rattle.log_tables.specs.declared.fault.TableFault.{TableFault}
use Rattle.log_places.specs.declared.fault.PlaceFault.{PlaceFault}
use Rattle.log_places.specs.declared.fault.PlaceFault.TheVariants.{Body, Tagged, NoNumber, GoesBack, NoList, Elsewhere}
use Rattle.log_places.specs.declared.fault.PlaceError.{PlaceError}
use Rattle.log_places.specs.declared.fault.PlaceError.TheVariants.{Memory, Fault}

-- the number of each fault
abbrev pub number_of : PlaceFault → ℕ
number_of Body = 146
number_of Tagged = 155
number_of NoNumber = 158
number_of GoesBack = 158
number_of NoList = 159
number_of Elsewhere = 159

-- which fault of the definition an error is: want of memory is none
abbrev pub meant : PlaceError → Option PlaceFault
meant Memory = None
meant (Fault fault) = Some fault

-- what is read of the parts of a body
abbrev pub of_part : {A : Type 0} → Result A TableFault → Result A PlaceFault
of_part (Ok x) = Ok x
of_part (Err fault) = Err Body
