use Rattle.std.proofs.Common.{rules}
use Rattle.proto_wire.proofs.field.number_of_tag.Goals as goal

pub returns : goal.returns
returns c = search rules
