-- The numbers by which a log is refused whose groups aren't read (this profile).
use Rattle.std.specs.Prelude.{ℕ, Option, None, Some, Result, Ok, Err}
use Rattle.log_events.specs.FaultNumber.{number_of_log}
use Rattle.log_events.specs.declared.fault.LogFault.{LogFault}
use Rattle.log_groups.specs.Fault as groups
use Rattle.log_places.specs.Fault as places
use Rattle.log_places.specs.declared.fault.PlaceFault.{PlaceFault}
use Rattle.log_course.specs.declared.fault.CourseFault.{CourseFault}
use Rattle.log_course.specs.declared.fault.CourseFault.TheVariants.{Log, Group, Place}
use Rattle.log_course.specs.declared.fault.CourseError.{CourseError}
use Rattle.log_course.specs.declared.fault.CourseError.TheVariants.{Memory, Fault}

-- the number of each fault
abbrev pub number_of : CourseFault → ℕ
number_of (Log fault) = number_of_log fault
number_of (Group fault) = groups.number_of fault
number_of (Place fault) = places.number_of fault

-- which fault of the definition an error is: want of memory is none
abbrev pub meant : CourseError → Option CourseFault
meant Memory = None
meant (Fault fault) = Some fault

-- what is read of a file
abbrev pub of_log : {A : Type 0} → Result A LogFault → Result A CourseFault
of_log (Ok x) = Ok x
of_log (Err fault) = Err (Log fault)

-- what is read of a position
abbrev pub of_place : {A : Type 0} → Result A PlaceFault → Result A CourseFault
of_place (Ok x) = Ok x
of_place (Err fault) = Err (Place fault)
