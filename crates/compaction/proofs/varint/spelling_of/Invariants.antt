use Rattle.std.proofs.Common.{◌≡◌, ◌-◌, ◌≤◌, take, length}
use Rattle.proto_wire.proofs.SpellingLoop.{IsSpelled}
use Rattle.compaction.proofs.varint.spelling_of.Given as goal

abbrev pub invariant-loop-rest : goal.invariant-loop-rest
invariant-loop-rest l = (length l.bytes ≡ 10) × (l.size ≤ 9) × IsSpelled l.fn.value (take l.size l.bytes) (9 - l.size) l.rest

abbrev pub decreases-loop-rest : goal.decreases-loop-rest
decreases-loop-rest l = l.rest
