use Rattle.proto_wire.proofs.WritingLaws.{numbers_read_again}
use Rattle.proto_wire.proofs.written_laws.numbers_are_read_again.Goals as goal

pub returns : goal.returns
returns c = numbers_read_again
