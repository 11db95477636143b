use Rattle.std.proofs.Common.{arith}
use Rattle.proto_wire.proofs.SpellingLoop.{count_starts, count_step, count_ends}
use Rattle.proto_wire.proofs.spelling.varint_size.Goals as goal

pub loop-rest-init : goal.loop-rest-init
loop-rest-init c = count_starts c.args.value (omega arith)

pub loop-rest-preserved : goal.loop-rest-preserved
loop-rest-preserved c = count_step c.args.value c.loop-rest.size c.loop-rest.rest c.loop-rest.invariant (omega arith)

pub returns-clause-size : goal.returns-clause-size
returns-clause-size c = (count_ends c.args.value c.loop-rest.size c.loop-rest.rest c.loop-rest.invariant (omega arith)).0
