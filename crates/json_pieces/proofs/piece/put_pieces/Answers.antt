use Rattle.std.proofs.Common.{◌+◌, ◌∙◌, ◌++◌, ap, drop, sym}
use Rattle.std.proofs.lemmas.List.{drop_all, drop_more}
use Rattle.json_pieces.specs.Pieces.{piece_text, pieces_text}
use Rattle.json_pieces.specs.declared.piece.Piece.{Piece}
use Rattle.json_pieces.proofs.TellLaws.{moves, ends}
use Rattle.json_pieces.proofs.piece.put_pieces.Goals as goal

pub loop-piece-preserved : goal.loop-piece-preserved
loop-piece-preserved g c =
    let pieces = c.args.pieces.now in
    let k = c.loop-piece.piece-index in
    let first = ap pieces_text (drop_more pieces k c.piece-item.result c.loop-piece-test.true) ∙ ap (λ (p : Piece). piece_text p ++ pieces_text (drop (k + 1) pieces)) (sym c.piece-item.is) in
    moves _ _ _ _ _ _ _ first c.loop-piece.invariant c.put_piece.ensures

pub returns : goal.returns
returns g c = ends _ _ _ _ (ap pieces_text (drop_all c.loop-piece.piece-index c.args.pieces.now c.loop-piece-test.false)) c.loop-piece.invariant
