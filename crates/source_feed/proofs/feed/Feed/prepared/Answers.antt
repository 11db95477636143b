use Rattle.std.proofs.Common.{◌≡◌, rules, ap, subst, sym}
use Rattle.std.specs.Arc.{arc_value}
use Rattle.source_feed.specs.Planned.{FeedValue, IsFeed, IsChangeUnder}
use Rattle.source_feed.specs.Prepared.{IsPrepared}
use Rattle.source_feed.proofs.PreparedLaws.{changes_under, made_whole, group_number}
use Rattle.source_feed.proofs.feed.Feed.prepared.Goals as goal

pub touches_of-requires : goal.touches_of-requires
touches_of-requires c j change at =
    let whole : IsFeed c.args.self.now = subst IsFeed c.self.view_is c.self.invariant in
    let kept : arc_value c.self.inside.plan ≡ c.args.self.now.plan = ap (λ (feed : FeedValue). feed.plan) c.self.view_is in
    let lent = c.deref.ensures in
    let plan : c.args.self.now.plan ≡ c.deref.result.now = cc in
    subst (λ p. IsChangeUnder p change) plan
    (changes_under c.args.self.now c.args.number c.in-Some.group.now whole c.in-Some.ensures j change at)

pub invariant_of-prepared : goal.invariant_of-prepared
invariant_of-prepared c =
    let whole : IsFeed c.args.self.now = subst IsFeed c.self.view_is c.self.invariant in
    let kept : arc_value c.self.inside.plan ≡ c.args.self.now.plan = ap (λ (feed : FeedValue). feed.plan) c.self.view_is in
    let shared : arc_value c.in_ok-clone.field-0 ≡ c.args.self.now.plan = search rules in
    let lent = c.deref.ensures in
    let asked : c.deref.result.now ≡ c.args.self.now.plan = cc in
    let position : arc_value c.in_ok-clone-2.field-0 ≡ c.in-Some.group.now.position = search rules in
    made_whole c.args.self.now c.args.number c.in-Some.group.now (arc_value c.in_ok-clone.field-0) c.deref.result.now c.number.result (arc_value c.in_ok-clone-2.field-0)
    c.in_ok-touches_of.field-0.items whole c.in-Some.ensures shared asked c.number.ensures position c.in_ok-touches_of.ensures

pub returns-clause-number : goal.returns-clause-number
returns-clause-number c =
    let whole : IsFeed c.args.self.now = subst IsFeed c.self.view_is c.self.invariant in
    let asked : c.in-Some.group.now.number ≡ c.args.number = group_number c.args.self.now c.args.number c.in-Some.group.now whole c.in-Some.ensures in
    search rules

pub returns-clause-whole : goal.returns-clause-whole
returns-clause-whole c =
    let whole : IsFeed c.args.self.now = subst IsFeed c.self.view_is c.self.invariant in
    let kept : arc_value c.self.inside.plan ≡ c.args.self.now.plan = ap (λ (feed : FeedValue). feed.plan) c.self.view_is in
    let shared : arc_value c.in_ok-clone.field-0 ≡ c.args.self.now.plan = search rules in
    let lent = c.deref.ensures in
    let asked : c.deref.result.now ≡ c.args.self.now.plan = cc in
    let position : arc_value c.in_ok-clone-2.field-0 ≡ c.in-Some.group.now.position = search rules in
    let made : IsPrepared (record { plan = arc_value c.in_ok-clone.field-0; number = c.number.result; position = arc_value c.in_ok-clone-2.field-0; touches = c.in_ok-touches_of.field-0.items }) =
    made_whole c.args.self.now c.args.number c.in-Some.group.now (arc_value c.in_ok-clone.field-0) c.deref.result.now c.number.result (arc_value c.in_ok-clone-2.field-0)
    c.in_ok-touches_of.field-0.items whole c.in-Some.ensures shared asked c.number.ensures position c.in_ok-touches_of.ensures in
    subst IsPrepared (sym c.in_ok-new.ensures.ok) made
