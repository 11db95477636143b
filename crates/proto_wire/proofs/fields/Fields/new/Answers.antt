use Rattle.std.proofs.Common.{sym}
use Rattle.proto_wire.specs.Field.{IsField, NoField, field_at}
use Rattle.proto_wire.proofs.ReadingLaws.{spells-reading, only_reading}
use Rattle.proto_wire.proofs.FieldLaws.{field_reader}
use Rattle.proto_wire.proofs.fields.Fields.new.Goals as goal

pub returns-clause-spelled : goal.returns-clause-spelled
returns-clause-spelled c = spells-reading IsField NoField field_at field_reader c.args.bytes.now

pub returns-clause-only : goal.returns-clause-only
returns-clause-only c other h = sym (only_reading IsField NoField field_at field_reader c.args.bytes.now other.items other.fault h)
