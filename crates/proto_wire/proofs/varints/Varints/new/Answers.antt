use Rattle.std.proofs.Common.{sym}
use Rattle.proto_wire.specs.Varint.{IsVarint, NoVarint, varint_at}
use Rattle.proto_wire.proofs.ReadingLaws.{spells-reading, only_reading}
use Rattle.proto_wire.proofs.VarintLaws.{varint_reader}
use Rattle.proto_wire.proofs.varints.Varints.new.Goals as goal

pub returns-clause-spelled : goal.returns-clause-spelled
returns-clause-spelled c = spells-reading IsVarint NoVarint varint_at varint_reader c.args.bytes.now

pub returns-clause-only : goal.returns-clause-only
returns-clause-only c other h = sym (only_reading IsVarint NoVarint varint_at varint_reader c.args.bytes.now other.items other.fault h)
