use Rattle.std.proofs.Common.{rules}
use Rattle.proto_wire.proofs.field.Field.varint.Goals as goal

pub returns-in-Varint : goal.returns-in-Varint
returns-in-Varint c = search rules
