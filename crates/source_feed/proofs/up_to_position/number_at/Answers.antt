use Rattle.std.proofs.Common.{◌∙◌, ◌≤◌, length, sym, arith}
use Rattle.std.proofs.lemmas.Bool.{false≢true}
use Rattle.source_feed.proofs.PositionLaws.{none_at_all}
use Rattle.source_feed.proofs.up_to_position.number_at.Goals as goal

pub returns : goal.returns
returns c =
    let most : length c.args.feed.now.groups ≤ c.loop-i.i = omega (arith, c.loop-i-test.false, c.len-i-end.ensures) in
    none_at_all c.args.feed.now c.args.position.now c.loop-i.i most c.loop-i.invariant (λ empty. absurd (false≢true (sym c.if-is_empty.false ∙ c.is_empty.ensures.1 empty)))
