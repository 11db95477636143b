use Rattle.std.proofs.Common.{◌≡◌, ◌∙◌, Some, ap, sym, subst}
use Rattle.std.specs.Arc.{arc_value}
use Rattle.std.specs.Result.{result_err}
use Rattle.filter_rule.specs.PlanValue.{PlanValue}
use Rattle.source_feed.specs.Planned.{FeedValue, IsFeed, IsChangeUnder}
use Rattle.source_feed.specs.Touches.{touches_of}
use Rattle.source_feed.proofs.JudgedLaws.{judged_at, meant_is}
use Rattle.source_feed.proofs.PreparedLaws.{changes_under}
use Rattle.source_feed.proofs.feed.Feed.wanted.Goals as goal

pub judge-requires : goal.judge-requires
judge-requires c j change at =
    let whole : IsFeed c.args.self.now = subst IsFeed c.self.view_is c.self.invariant in
    let kept : arc_value c.self.inside.plan ≡ c.args.self.now.plan = ap (λ (feed : FeedValue). feed.plan) c.self.view_is in
    let lent = c.deref.ensures in
    let plan : c.args.self.now.plan ≡ c.deref.result.now = cc in
    subst (λ p. IsChangeUnder p change) plan
    (changes_under c.args.self.now c.args.number c.in-Some.group.now whole c.in-Some.ensures j change at)

pub returns-in-Err : goal.returns-in-Err
returns-in-Err c =
    let kept : arc_value c.self.inside.plan ≡ c.args.self.now.plan = ap (λ (feed : FeedValue). feed.plan) c.self.view_is in
    let lent = c.deref.ensures in
    let plan : c.deref.result.now ≡ c.args.self.now.plan = cc in
    let group = c.in-Some.group.now in
    let refused : result_err (touches_of c.deref.result.now group.number group.changes) ≡ Some c.in-Err.fault = sym c.in-Err.ensures in
    meant_is c.deref.result.now group.number group.changes c.in-Err.fault refused
    ∙ sym refused
    ∙ ap (λ (p : PlanValue). result_err (touches_of p group.number group.changes)) plan
    ∙ sym (judged_at c.args.self.now c.args.number group (sym c.in-Some.ensures))
