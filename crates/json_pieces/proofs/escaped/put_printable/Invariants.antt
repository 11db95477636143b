use Rattle.std.proofs.Common.{drop, map}
use Rattle.json.specs.Print.{escape}
use Rattle.shown_text.specs.Shown.{printable_byte}
use Rattle.json_pieces.specs.Telling.{IsToldUpTo, at}
use Rattle.json_pieces.proofs.escaped.put_printable.Given as goal

-- what is told and what is left are the whole
abbrev pub invariant-loop-byte : goal.invariant-loop-byte
invariant-loop-byte g l = IsToldUpTo (at (g.O.Out.written l.fn.out) l.fn.line) (at (g.O.Out.written l.out) l.line) (escape (map printable_byte l.bytes)) (escape (map printable_byte (drop l.byte-index l.bytes)))
