use Rattle.pk_copy.specs.KeyOrder.{key_cmp}
use Rattle.pk_copy.specs.SmallPartValue.{lent_key}
use Rattle.pk_copy.proofs.FrontLaws.{front_of_same, told_order}
use Rattle.pk_copy.proofs.lent_kept.compare.Goals as goal

pub returns-in-Some : goal.returns-in-Some
returns-in-Some c =
    told_order c.decided.result c.in-Some.order (key_cmp (lent_key c.args.one.now) (lent_key c.args.other.now)) c.in-Some.is
    (
    c.decided.ensures.told (lent_key c.args.one.now) (lent_key c.args.other.now)
    (front_of_same _ _ _ _ _ c.front.ensures.0 c.front.ensures.1 c.requires.one.front)
    (front_of_same _ _ _ _ _ c.front-2.ensures.0 c.front-2.ensures.1 c.requires.other.front)
    )
