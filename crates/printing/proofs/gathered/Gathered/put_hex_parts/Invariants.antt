use Rattle.std.proofs.Common.{length}
use Rattle.hex.specs.Hex.{encode_lower}
use Rattle.printing.specs.Private.Progress.{IsAddedTo}
use Rattle.printing.proofs.gathered.Gathered.put_hex_parts.Given as goal

-- the digits that are added and those that are left are the whole
abbrev pub invariant-loop-rest : goal.invariant-loop-rest
invariant-loop-rest g l = IsAddedTo (g.O.Out.written l.fn.out) l.fn.self (g.O.Out.written l.out) l.self (encode_lower l.fn.bytes) (encode_lower l.rest)

abbrev pub decreases-loop-rest : goal.decreases-loop-rest
decreases-loop-rest g l = length l.rest
