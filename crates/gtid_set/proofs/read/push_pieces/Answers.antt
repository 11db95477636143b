use Rattle.std.proofs.Common.{refl}
use Rattle.std.proofs.lemmas.Result.{err_from_is_err_and}
use Rattle.gtid_set.specs.Text.{intervals_of_piece}
use Rattle.gtid_set.proofs.Reading.{read_next, read_bad, read_all, smaller_some}
use Rattle.gtid_set.proofs.read.push_pieces.Goals as goal

pub loop-rest-init : goal.loop-rest-init
loop-rest-init c = λ front kept. (front, kept, refl)

pub returns-in_err-push_piece : goal.returns-in_err-push_piece
returns-in_err-push_piece c =
    let p = err_from_is_err_and c.from_residual.result c.from_residual.ensures.1 in
    rw (p.1, p.2) (λ front kept. read_bad (intervals_of_piece c.args.uuid) 58 c.loop-rest.named c.loop-rest.rest c.cut.result.1 c.in-Some.pieces c.cut.result.0.now _ c.in_err-push_piece.field-0.0 c.in-Some.is c.cut.ensures c.in_err-push_piece.ensures (c.loop-rest.invariant front kept))

pub loop-rest-smaller : goal.loop-rest-smaller
loop-rest-smaller c = smaller_some 58 c.loop-rest.rest c.cut.result.1 c.in-Some.pieces c.cut.result.0.now c.in-Some.is c.cut.ensures

pub loop-rest-preserved : goal.loop-rest-preserved
loop-rest-preserved c = λ front kept.
    read_next (intervals_of_piece c.args.uuid) 58 c.loop-rest.named c.push_piece.new.named c.loop-rest.rest c.cut.result.1 c.in-Some.pieces c.cut.result.0.now _ c.in-Some.is c.cut.ensures c.in_ok-push_piece.ensures (c.loop-rest.invariant front kept)

pub returns : goal.returns
returns c = λ front kept. read_all (intervals_of_piece c.args.uuid) 58 c.loop-rest.named c.loop-rest.rest _ c.in_default.not-Some (c.loop-rest.invariant front kept)
