use Rattle.std.proofs.Common.{◌≡◌, ◌++◌, map, length}
use Rattle.proto_wire.specs.Zigzag.{unzigzag_of}
use Rattle.proto_wire.specs.Sint64s.{sint64s_of}
use Rattle.proto_wire.proofs.sint64s.Sint64sIterator.next.Given as goal

-- the numbers that are still to come are those at the start of the call
abbrev pub invariant-loop-number : goal.invariant-loop-number
invariant-loop-number l = map unzigzag_of l.self-inside.packed.items ++ sint64s_of l.self-inside.number l.self-inside.fields.items ≡ l.fn.self

abbrev pub decreases-loop-number : goal.decreases-loop-number
decreases-loop-number l = length l.self-inside.fields.items
