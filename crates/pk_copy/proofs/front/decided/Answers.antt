use Rattle.std.proofs.Common.{sym, arith}
use Rattle.pk_copy.proofs.FrontLaws.{leads_less, heads_in_order}
use Rattle.pk_copy.proofs.front.decided.Goals as goal

pub returns-then-one-other-clause-told : goal.returns-then-one-other-clause-told
returns-then-one-other-clause-told c x y mine others = sym (leads_less x y (omega (arith, mine.is_lead, others.is_lead, c.if-one-other.true)))

pub returns-then-one-other-3-clause-told : goal.returns-then-one-other-3-clause-told
returns-then-one-other-3-clause-told c x y mine others =
    sym (heads_in_order x y (omega (arith, mine.is_lead, others.is_lead, c.if-one-other.false, c.if-one-other-2.false)) others.in_bytes (omega (arith, mine.is_head, others.is_head, c.if-one-other-3.true)))
