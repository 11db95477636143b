use Rattle.std.proofs.Common.{rules}
use Rattle.proto_wire.proofs.fields.Fields.next_part.Goals as goal

pub returns : goal.returns
returns c = search rules
