use Rattle.std.proofs.lemmas.List.{length-map}
use Rattle.filter_rule.specs.PlanValue.{PlanValue}
use Rattle.std.proofs.Common.{◌≡◌, ◌≤◌, ap, sym, subst, ◌∙◌, map, slice_get, Some, refl}
use Rattle.std.proofs.lemmas.Bool.{false≢true}
use Rattle.std.specs.Prelude.{IsTrue}
use Rattle.std.specs.Option.{option_copied}
use Rattle.std.specs.Arc.{arc_value}
use Rattle.apply_core.proofs.StreamLaws.{item_at}
use Rattle.apply_core.proofs.FreshLaws.{front_at, one-more, all-same}
use Rattle.apply_core.proofs.fresh.have_same_tables.Goals as goal

pub returns-then-not-same_tables : goal.returns-then-not-same_tables
returns-then-not-same_tables c =
    let at : slice_get (map arc_value c.args.plans.now) c.loop-plan.plan-index ≡ Some c.deref.result.now = item_at arc_value c.args.plans.now c.loop-plan.plan-index c.plan-item.result c.deref.result.now c.loop-plan-test.true c.plan-item.is c.deref.ensures in
    let front : slice_get (map arc_value c.args.plans.now) 0 ≡ Some c.deref-in-loop-plan.result.now = front_at arc_value c.args.plans.now c.in-Some.first.now c.deref-in-loop-plan.result.now (sym c.first.ensures.value ∙ ap option_copied c.in-Some.is) c.deref-in-loop-plan.ensures in (
      λ is. absurd (false≢true is),
      λ same. subst IsTrue c.if-not-same_tables.true (c.same_tables.ensures.1 (same c.loop-plan.plan-index 0 _ _ at front)),
    )

pub loop-plan-preserved : goal.loop-plan-preserved
loop-plan-preserved c =
    let at : slice_get (map arc_value c.args.plans.now) c.loop-plan.plan-index ≡ Some c.deref.result.now = item_at arc_value c.args.plans.now c.loop-plan.plan-index c.plan-item.result c.deref.result.now c.loop-plan-test.true c.plan-item.is c.deref.ensures in
    let same : c.deref.result.now.tables ≡ c.in-Some.first.now.value.tables = c.same_tables.ensures.0 (subst IsTrue (sym c.if-not-same_tables.false) refl) ∙ ap (λ (p : PlanValue). p.tables) c.deref-in-loop-plan.ensures in
    one-more (map arc_value c.args.plans.now) c.in-Some.first.now.value c.loop-plan.plan-index c.deref.result.now at same c.loop-plan.invariant

pub returns : goal.returns
returns c = (
  λ _. all-same (map arc_value c.args.plans.now) c.in-Some.first.now.value c.loop-plan.plan-index (subst (λ n. n ≤ c.loop-plan.plan-index) (sym (length-map c.args.plans.now arc_value)) c.loop-plan-test.false) c.loop-plan.invariant,
  λ _. refl,
)
