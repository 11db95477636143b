use Rattle.proto_wire.proofs.VarintLaws.{one_more_byte}
use Rattle.proto_wire.proofs.laws.longer_spelling.Goals as goal

pub returns : goal.returns
returns c = one_more_byte
