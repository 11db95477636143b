use Rattle.std.proofs.Common.{◌≡◌, rules, map, Some, Ok, ◌∙◌, inr}
use Rattle.std.specs.Prelude.{option_copied}
use Rattle.std.specs.Arc.{arc_value}
use Rattle.filter_rule.specs.PlanValue.{PlanValue}
use Rattle.filter_rule.specs.WellFormed.{IsPlan}
use Rattle.source_feed.specs.Groups.{groups}
use Rattle.source_feed.specs.Planned.{source_of, planned_group}
use Rattle.source_feed.specs.Private.FeedTables.{AreNumbered}
use Rattle.source_feed.specs.Private.NamedGroups.{all_named}
use Rattle.std.proofs.lemmas.Result.{err_from_is_err_and}
use Rattle.list_laws.specs.Outcome.{Refuses}
use Rattle.source_feed.specs.FaultNumber.{meant_of}
use Rattle.source_feed.proofs.FirstFaultLaws.{refusal_under, seen_different}
use Rattle.source_feed.proofs.NumberedLaws.{kept_under}
use Rattle.source_feed.proofs.PlanLaws.{opened_feed, defined_under}
use Rattle.source_feed.proofs.feed.Feed.open.Goals as goal

pub invariant_of-result : goal.invariant_of-result
invariant_of-result c =
    let plan : PlanValue = arc_value c.args.plan.now in
    let planned : IsPlan plan = search rules in
    let given : arc_value c.in_ok-clone.field-0 ≡ plan = search rules in
    let whole : groups c.args.feed.now (source_of plan) ≡ Ok (all_named c.in_ok-kept.kept) = search rules in
    let checked : option_copied c.new-field_check.result.plan ≡ Some plan = search rules in
    let numbers : AreNumbered (Some plan) c.in_ok-kept.kept.tables = rw checked at c.in_ok-kept.ensures.numbers in
    let under : c.in_ok-groups.groups.items ≡ map (planned_group plan) (all_named c.in_ok-kept.kept) = c.in_ok-groups.ensures.ok ∙ kept_under plan c.in_ok-kept.kept numbers c.in_ok-kept.ensures.tables in
    opened_feed plan (arc_value c.in_ok-clone.field-0) c.args.feed.now (all_named c.in_ok-kept.kept) c.in_ok-groups.groups.items (option_copied c.new-field_check.result.plan)
    c.new-field_check.result.differs c.read.new.field_check.differs planned given under c.in_ok-kept.ensures.order c.in_ok-kept.ensures.few whole checked c.if-field_check.false
    c.in_ok-kept.ensures.seen

pub returns-clause-whole : goal.returns-clause-whole
returns-clause-whole c =
    let plan : PlanValue = arc_value c.args.plan.now in
    let planned : IsPlan plan = search rules in
    let given : arc_value c.in_ok-clone.field-0 ≡ plan = search rules in
    let whole : groups c.args.feed.now (source_of plan) ≡ Ok (all_named c.in_ok-kept.kept) = search rules in
    let checked : option_copied c.new-field_check.result.plan ≡ Some plan = search rules in
    let numbers : AreNumbered (Some plan) c.in_ok-kept.kept.tables = rw checked at c.in_ok-kept.ensures.numbers in
    let under : c.in_ok-groups.groups.items ≡ map (planned_group plan) (all_named c.in_ok-kept.kept) = c.in_ok-groups.ensures.ok ∙ kept_under plan c.in_ok-kept.kept numbers c.in_ok-kept.ensures.tables in
    opened_feed plan (arc_value c.in_ok-clone.field-0) c.args.feed.now (all_named c.in_ok-kept.kept) c.in_ok-groups.groups.items (option_copied c.new-field_check.result.plan)
    c.new-field_check.result.differs c.read.new.field_check.differs planned given under c.in_ok-kept.ensures.order c.in_ok-kept.ensures.few whole checked c.if-field_check.false
    c.in_ok-kept.ensures.seen

pub returns-clause-groups : goal.returns-clause-groups
returns-clause-groups c =
    let plan : PlanValue = arc_value c.args.plan.now in
    let whole : groups c.args.feed.now (source_of plan) ≡ Ok (all_named c.in_ok-kept.kept) = search rules in
    let checked : option_copied c.new-field_check.result.plan ≡ Some plan = search rules in
    let numbers : AreNumbered (Some plan) c.in_ok-kept.kept.tables = rw checked at c.in_ok-kept.ensures.numbers in
    let under : c.in_ok-groups.groups.items ≡ map (planned_group plan) (all_named c.in_ok-kept.kept) = c.in_ok-groups.ensures.ok ∙ kept_under plan c.in_ok-kept.kept numbers c.in_ok-kept.ensures.tables in
    search rules

pub returns-in_err-kept-clause-first : goal.returns-in_err-kept-clause-first
returns-in_err-kept-clause-first c =
    let plan : PlanValue = arc_value c.args.plan.now in
    let refused : Refuses meant_of c.in_err-kept.field-0.0 (groups c.args.feed.now (source_of plan)) = search rules in
    let p = err_from_is_err_and c.from_residual.result c.from_residual.ensures.1 in
    rw (p.1, p.2) (refusal_under c.args.feed.now plan c.in_err-kept.field-0.0 refused)

pub returns-then-field_check-clause-first : goal.returns-then-field_check-clause-first
returns-then-field_check-clause-first c =
    let plan : PlanValue = arc_value c.args.plan.now in
    let whole : groups c.args.feed.now (source_of plan) ≡ Ok (all_named c.in_ok-kept.kept) = search rules in
    let checked : option_copied c.new-field_check.result.plan ≡ Some plan = search rules in
    seen_different c.args.feed.now plan (all_named c.in_ok-kept.kept) (option_copied c.new-field_check.result.plan) c.new-field_check.result.differs c.read.new.field_check.differs
    whole checked c.new-field_check.ensures.none c.if-field_check.true c.in_ok-kept.ensures.seen

pub returns-in_err-groups-clause-memory : goal.returns-in_err-groups-clause-memory
returns-in_err-groups-clause-memory c =
    let plan : PlanValue = arc_value c.args.plan.now in
    let whole : groups c.args.feed.now (source_of plan) ≡ Ok (all_named c.in_ok-kept.kept) = search rules in
    let checked : option_copied c.new-field_check.result.plan ≡ Some plan = search rules in
    λ is. inr (defined_under plan c.args.feed.now (all_named c.in_ok-kept.kept) (option_copied c.new-field_check.result.plan) c.new-field_check.result.differs c.read.new.field_check.differs whole checked c.if-field_check.false c.in_ok-kept.ensures.seen)

pub returns-in_err-clone-clause-memory : goal.returns-in_err-clone-clause-memory
returns-in_err-clone-clause-memory c =
    let plan : PlanValue = arc_value c.args.plan.now in
    let whole : groups c.args.feed.now (source_of plan) ≡ Ok (all_named c.in_ok-kept.kept) = search rules in
    let checked : option_copied c.new-field_check.result.plan ≡ Some plan = search rules in
    λ is. inr (defined_under plan c.args.feed.now (all_named c.in_ok-kept.kept) (option_copied c.new-field_check.result.plan) c.new-field_check.result.differs c.read.new.field_check.differs whole checked c.if-field_check.false c.in_ok-kept.ensures.seen)
