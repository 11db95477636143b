use Rattle.std.proofs.Common.{rules}
use Rattle.proto_wire.proofs.parts.single_of.Goals as goal

pub returns : goal.returns
returns c = search rules
