use Rattle.std.proofs.Common.{rules}
use Rattle.proto_wire.proofs.field.Field.part.Goals as goal

pub returns-in-Bytes : goal.returns-in-Bytes
returns-in-Bytes c = search rules
