use Rattle.std.proofs.Common.{drop}
use Rattle.json.specs.Print.{escape}
use Rattle.json_pieces.specs.Telling.{IsToldUpTo, at}
use Rattle.json_pieces.proofs.escaped.put_escaped.Given as goal

-- what is told and what is left are the whole
abbrev pub invariant-loop-byte : goal.invariant-loop-byte
invariant-loop-byte g l = IsToldUpTo (at (g.O.Out.written l.fn.out) l.fn.line) (at (g.O.Out.written l.out) l.line) (escape l.bytes) (escape (drop l.byte-index l.bytes))
