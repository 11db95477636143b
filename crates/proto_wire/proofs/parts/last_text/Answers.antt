use Rattle.std.proofs.Common.{rules}
use Rattle.proto_wire.proofs.parts.last_text.Goals as goal

pub loop-part-preserved : goal.loop-part-preserved
loop-part-preserved c = search rules
