use Rattle.std.proofs.Common.{◌≡◌, ◌<◌, ◌≤◌, Some, List, length, map, slice_get, refl, sym, ap, subst, ◌∙◌, arith}
use Rattle.std.proofs.lemmas.Bool.{false≢true}
use Rattle.std.proofs.lemmas.List.{length-map}
use Rattle.std.proofs.lemmas.Option.{same_Some, slice_get_read, slice_get_within}
use Rattle.std.specs.Prelude.{IsTrue}
use Rattle.std.specs.Arc.{arc_value}
use Rattle.filter_rule.specs.PlanValue.{PlanValue}
use Rattle.source_feed.specs.Planned.{FeedValue, IsFeed}
use Rattle.apply_core.proofs.StreamLaws.{item_at}
use Rattle.apply_core.proofs.ScheduleLaws.{same-list, agree-more, each-more}
use Rattle.apply_core.proofs.schedule.are_opened_under.Goals as goal

pub returns-then-not-same-clause-opened : goal.returns-then-not-same-clause-opened
returns-then-not-same-clause-opened c =
    let inside : c.loop-i.i < length c.args.plans.now = omega (arith, c.loop-i-test.true, c.requires) in
    let feed : slice_get (map (λ (feed : FeedValue). feed.plan) c.args.feeds.now) c.loop-i.i ≡ Some c.index-feeds-i.result.plan
    = item_at (λ (feed : FeedValue). feed.plan) c.args.feeds.now c.loop-i.i c.index-feeds-i.result c.index-feeds-i.result.plan c.loop-i-test.true c.index-feeds-i.is refl in
    let plan : slice_get (map arc_value c.args.plans.now) c.loop-i.i ≡ Some c.deref-in-loop-i.result.now
    = item_at arc_value c.args.plans.now c.loop-i.i c.index-plans-i.result c.deref-in-loop-i.result.now inside c.index-plans-i.is c.deref-in-loop-i.ensures in (
      λ is. absurd (false≢true is),
      λ same. subst IsTrue c.if-not-same.true (c.same.ensures.1
          (c.deref.ensures ∙ c.plan.ensures.value ∙ same_Some c.index-feeds-i.result.plan c.deref-in-loop-i.result.now (sym feed ∙ ap (λ (ps : List PlanValue). slice_get ps c.loop-i.i) same ∙ plan))),
    )

pub loop-i-preserved : goal.loop-i-preserved
loop-i-preserved c =
    let inside : c.loop-i.i < length c.args.plans.now = omega (arith, c.loop-i-test.true, c.requires) in
    let feed : slice_get (map (λ (feed : FeedValue). feed.plan) c.args.feeds.now) c.loop-i.i ≡ Some c.index-feeds-i.result.plan
    = item_at (λ (feed : FeedValue). feed.plan) c.args.feeds.now c.loop-i.i c.index-feeds-i.result c.index-feeds-i.result.plan c.loop-i-test.true c.index-feeds-i.is refl in
    let plan : slice_get (map arc_value c.args.plans.now) c.loop-i.i ≡ Some c.deref-in-loop-i.result.now
    = item_at arc_value c.args.plans.now c.loop-i.i c.index-plans-i.result c.deref-in-loop-i.result.now inside c.index-plans-i.is c.deref-in-loop-i.ensures in
    let same : c.index-feeds-i.result.plan ≡ c.deref-in-loop-i.result.now
    = sym c.plan.ensures.value ∙ sym c.deref.ensures ∙ c.same.ensures.0 (subst IsTrue (sym c.if-not-same.false) refl) in
    record {
      opened = agree-more (map (λ (feed : FeedValue). feed.plan) c.args.feeds.now) (map arc_value c.args.plans.now) c.loop-i.i c.index-feeds-i.result.plan c.deref-in-loop-i.result.now feed plan same c.loop-i.invariant.opened;
      whole = each-more IsFeed c.args.feeds.now c.loop-i.i c.index-feeds-i.result (slice_get_read c.args.feeds.now (length c.args.feeds.now) c.loop-i.i c.index-feeds-i.result refl c.loop-i-test.true c.index-feeds-i.is) c.plan.ensures.whole c.loop-i.invariant.whole;
    }

pub returns-clause-opened : goal.returns-clause-opened
returns-clause-opened c =
    let past : length c.args.feeds.now ≤ c.loop-i.i = c.loop-i-test.false in (
      λ _. same-list (map (λ (feed : FeedValue). feed.plan) c.args.feeds.now) (map arc_value c.args.plans.now) (length c.args.feeds.now)
          (length-map c.args.feeds.now (λ (feed : FeedValue). feed.plan)) (length-map c.args.plans.now arc_value ∙ sym c.requires)
          (λ k less. c.loop-i.invariant.opened k (omega (arith, less, past))),
      λ _. refl,
    )

pub returns-clause-whole : goal.returns-clause-whole
returns-clause-whole c =
    let past : length c.args.feeds.now ≤ c.loop-i.i = c.loop-i-test.false in
    λ _ s feed here. c.loop-i.invariant.whole s feed (let inside : s < length c.args.feeds.now = slice_get_within c.args.feeds.now s feed here in omega (arith, inside, past)) here
