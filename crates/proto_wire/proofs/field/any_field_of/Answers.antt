use Rattle.std.proofs.Common.{rules}
use Rattle.proto_wire.specs.Field.{field_at}
use Rattle.proto_wire.specs.Field.{field_behind}
use Rattle.proto_wire.proofs.field.any_field_of.Goals as goal

pub returns-in_default : goal.returns-in_default
unfolding field_at field_behind
returns-in_default c = search rules
