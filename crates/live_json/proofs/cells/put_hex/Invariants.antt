use Rattle.std.proofs.Common.{drop}
use Rattle.hex.specs.Hex.{encode_lower}
use Rattle.json.specs.Print.{escape}
use Rattle.json_pieces.specs.Telling.{IsToldUpTo, at}
use Rattle.live_json.proofs.cells.put_hex.Given as goal

-- what is told and what is left are the whole
abbrev pub invariant-loop-byte : goal.invariant-loop-byte
invariant-loop-byte g l = IsToldUpTo (at (g.O.Out.written l.fn.out) l.fn.line) (at (g.O.Out.written l.out) l.line) (escape (encode_lower l.bytes)) (escape (encode_lower (drop l.byte-index l.bytes)))
