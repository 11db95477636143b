use Rattle.std.proofs.Common.{refl}
use Rattle.proto_wire.specs.Varint.{shortest, shortest_within}
use Rattle.log_transcribe.proofs.message.begin_bytes.Goals as goal

pub returns : goal.returns
unfolding shortest shortest_within
returns c = refl
