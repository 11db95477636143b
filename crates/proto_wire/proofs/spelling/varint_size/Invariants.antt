use Rattle.proto_wire.proofs.SpellingLoop.{Counts}
use Rattle.proto_wire.proofs.spelling.varint_size.Given as goal

abbrev pub invariant-loop-rest : goal.invariant-loop-rest
invariant-loop-rest l = Counts l.fn.value l.size l.rest

abbrev pub decreases-loop-rest : goal.decreases-loop-rest
decreases-loop-rest l = l.rest
