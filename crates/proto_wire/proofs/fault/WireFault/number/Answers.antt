use Rattle.std.proofs.Common.{rules}
use Rattle.proto_wire.proofs.fault.WireFault.number.Goals as goal

pub returns-in-GroupWireType : goal.returns-in-GroupWireType
returns-in-GroupWireType c = search rules
