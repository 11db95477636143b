-- The numbers by which broken bytes are refused (this profile).
use Rattle.std.specs.Prelude.{ℕ}
use Rattle.proto_wire.specs.declared.fault.WireFault.{WireFault}
use Rattle.proto_wire.specs.declared.fault.WireFault.TheVariants.{Truncated, VarintTooLong, GroupWireType, BadWireType, BadFieldNumber}

-- the number of each fault
abbrev pub number_of : WireFault → ℕ
number_of Truncated = 1
number_of VarintTooLong = 2
number_of GroupWireType = 3
number_of BadWireType = 4
number_of BadFieldNumber = 5
