-- The numbers by which a row is refused (this profile).
use Rattle.std.specs.Prelude.{ℕ}
use Rattle.proto_wire.specs.FaultNumber as wire
use Rattle.row_view.specs.declared.fault.RowFault.{RowFault}
use Rattle.row_view.specs.declared.fault.RowFault.TheVariants.{RowTooLong, Wire, TooManyColumns, LengthsPastValues}

-- the number of each fault
abbrev pub number_of : RowFault → ℕ
number_of RowTooLong = 14
number_of (Wire fault) = 11
number_of TooManyColumns = 13
number_of LengthsPastValues = 12

-- the number of the innermost fault: that of the wire where the row isn't a list of fields
abbrev pub cause_of : RowFault → ℕ
cause_of RowTooLong = 14
cause_of (Wire fault) = wire.number_of fault
cause_of TooManyColumns = 13
cause_of LengthsPastValues = 12
