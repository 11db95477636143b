use Rattle.std.proofs.Common.{drop}
use Rattle.json_pieces.specs.Pieces.{pieces_text}
use Rattle.json_pieces.specs.Telling.{IsToldUpTo, at}
use Rattle.json_pieces.proofs.piece.put_pieces.Given as goal

-- what is told and what is left are the whole
abbrev pub invariant-loop-piece : goal.invariant-loop-piece
invariant-loop-piece g l = IsToldUpTo (at (g.O.Out.written l.fn.out) l.fn.line) (at (g.O.Out.written l.out) l.line) (pieces_text l.pieces) (pieces_text (drop l.piece-index l.pieces))
