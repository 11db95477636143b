-- The numbers by which a log is refused (this profile).
use Rattle.std.specs.Prelude.{ℕ}
use Rattle.log_events.specs.declared.fault.EventFault.{EventFault}
use Rattle.log_events.specs.declared.fault.EventFault.TheVariants.{Cut, TooSmall, WrongSum}
use Rattle.log_events.specs.declared.fault.LogFault.{LogFault}
use Rattle.log_events.specs.declared.fault.LogFault.TheVariants.{NoLog, Encrypted, First, NoDescription, OtherSum}

-- the number of what stands in the place of an event
abbrev pub number_of_event : EventFault → ℕ
number_of_event Cut = 141
number_of_event TooSmall = 142
number_of_event WrongSum = 143

-- the number of what is wrong with a file
abbrev pub number_of_log : LogFault → ℕ
number_of_log NoLog = 140
number_of_log Encrypted = 153
number_of_log (First fault) = number_of_event fault
number_of_log NoDescription = 144
number_of_log OtherSum = 145
