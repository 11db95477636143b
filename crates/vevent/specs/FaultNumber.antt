-- The numbers by which events are refused (this profile).
use Rattle.std.specs.Prelude.{ℕ}
use Rattle.proto_wire.specs.FaultNumber as wire
use Rattle.row_view.specs.FaultNumber as row
use Rattle.vevent.specs.declared.fault.EventFault.{EventFault}
use Rattle.vevent.specs.declared.fault.EventFault.TheVariants.{Wire, RepeatedMessage, BadType, NotUtf8, PartialRow, Row}

-- the event's own number, or the row's
abbrev pub number_of : EventFault → ℕ
number_of (Wire f) = 21
number_of RepeatedMessage = 22
number_of (BadType n) = 23
number_of NotUtf8 = 24
number_of PartialRow = 25
number_of (Row f) = row.number_of f

-- the innermost fault's number
abbrev pub cause_of : EventFault → ℕ
cause_of (Wire f) = wire.number_of f
cause_of RepeatedMessage = 22
cause_of (BadType n) = 23
cause_of NotUtf8 = 24
cause_of PartialRow = 25
cause_of (Row f) = row.cause_of f
