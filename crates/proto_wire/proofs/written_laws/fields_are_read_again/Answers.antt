use Rattle.proto_wire.proofs.WritingLaws.{fields_read_again}
use Rattle.proto_wire.proofs.written_laws.fields_are_read_again.Goals as goal

pub returns : goal.returns
returns c = fields_read_again
