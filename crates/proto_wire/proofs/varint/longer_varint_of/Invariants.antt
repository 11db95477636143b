use Rattle.std.proofs.Common.{◌-◌}
use Rattle.proto_wire.proofs.VarintLoop.{Reads}
use Rattle.proto_wire.proofs.varint.longer_varint_of.Given as goal

-- what is read so far, and how many bytes may still come
abbrev pub invariant-loop : goal.invariant-loop
invariant-loop l = Reads l.fn.bytes l.value l.weight (9 - l.counter) l.rest
