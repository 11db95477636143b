use Rattle.std.proofs.Common.{rules}
use Rattle.proto_wire.proofs.field.bytes_of.Goals as goal

pub returns-then-bytes-size : goal.returns-then-bytes-size
returns-then-bytes-size c = search rules
