use Rattle.std.proofs.Common.{rules}
use Rattle.proto_wire.proofs.sint64s.Sint64sIterator.next.Goals as goal

pub returns-in-Ok-Some : goal.returns-in-Ok-Some
returns-in-Ok-Some c = search rules
