use Rattle.std.proofs.Common.{◌∙◌, subst, sym, arith}
use Rattle.std.proofs.lemmas.Bool.{true≢false}
use Rattle.gtid_set.specs.Position.{IsCanonical}
use Rattle.feed_ends.proofs.WithinLaws.{all_there, counted, stops}
use Rattle.feed_ends.proofs.at_position.last_within.Goals as goal

pub returns-then-not-is_within-clause-last : goal.returns-then-not-is_within-clause-last
returns-then-not-is_within-clause-last c =
    stops c.args.feed.now c.plan.ensures.whole c.args.position.now c.loop-i.i (omega (arith, c.loop-i-test.true, c.len-i-end.ensures)) c.loop-i.invariant
    (λ has. true≢false (sym (c.is_within.ensures.1 has) ∙ c.if-not-is_within.true))

pub returns-then-not-is_within-clause-number : goal.returns-then-not-is_within-clause-number
returns-then-not-is_within-clause-number c =
    counted c.within_is_subset.ensures c.args.feed.now c.plan.ensures.whole c.args.position.now (subst IsCanonical c.intervals.ensures.value c.intervals.ensures.canonical) c.loop-i.i
    (stops c.args.feed.now c.plan.ensures.whole c.args.position.now c.loop-i.i (omega (arith, c.loop-i-test.true, c.len-i-end.ensures)) c.loop-i.invariant
    (λ has. true≢false (sym (c.is_within.ensures.1 has) ∙ c.if-not-is_within.true)))

pub returns-clause-last : goal.returns-clause-last
returns-clause-last c =
    all_there c.args.feed.now c.args.position.now c.len.result c.len.ensures
    (λ j group less at. c.loop-i.invariant j group (omega (arith, less, c.loop-i-test.false, c.len.ensures, c.len-i-end.ensures)) at)

pub returns-clause-number : goal.returns-clause-number
returns-clause-number c =
    counted c.within_is_subset.ensures c.args.feed.now c.plan.ensures.whole c.args.position.now (subst IsCanonical c.intervals.ensures.value c.intervals.ensures.canonical) c.len.result
    (all_there c.args.feed.now c.args.position.now c.len.result c.len.ensures
    (λ j group less at. c.loop-i.invariant j group (omega (arith, less, c.loop-i-test.false, c.len.ensures, c.len-i-end.ensures)) at))
