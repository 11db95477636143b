use Rattle.std.proofs.Common.{◌≡◌, ◌<◌, ◌∙◌, inl, inr, Some, length, map, slice_get, refl, sym, ap, subst, arith}
use Rattle.std.proofs.lemmas.Bool.{false≢true, cases_lt}
use Rattle.std.proofs.lemmas.List.{length-map}
use Rattle.std.proofs.lemmas.Option.{same_Some, slice_get_within}
use Rattle.std.specs.Arc.{arc_value}
use Rattle.filter_rule.specs.Extending.{IsExtended}
use Rattle.filter_rule.specs.PlanValue.{PlanValue}
use Rattle.board_laws.specs.Meaning.{State}
use Rattle.apply_core.specs.Private.Beside.{plans_in}
use Rattle.apply_core.proofs.StreamLaws.{item_at}
use Rattle.apply_core.proofs.adding.are_extended.Goals as goal

pub returns-then-not-is_extended : goal.returns-then-not-is_extended
returns-then-not-is_extended c =
    let inside : c.loop-s.s < length c.args.streams.now = omega (arith, c.loop-s-test.true, c.requires) in
    let old : slice_get (plans_in c.args.streams.now) c.loop-s.s ≡ Some c.index-streams-s.result.plan
    = item_at (λ (state : State). state.plan) c.args.streams.now c.loop-s.s c.index-streams-s.result c.index-streams-s.result.plan inside c.index-streams-s.is refl in
    let new : slice_get (map arc_value c.args.plans.now) c.loop-s.s ≡ Some c.deref.result.now
    = item_at arc_value c.args.plans.now c.loop-s.s c.index-plans-s.result c.deref.result.now c.loop-s-test.true c.index-plans-s.is c.deref.ensures in (
      λ is. absurd (false≢true is),
      λ all. sym c.if-not-is_extended.true ∙ c.is_extended.ensures.1 (all.each_plan c.loop-s.s c.index-streams-s.result.plan c.deref.result.now old new),
    )

pub loop-s-preserved : goal.loop-s-preserved
loop-s-preserved c = λ i one other less p q.
    let inside : c.loop-s.s < length c.args.streams.now = omega (arith, c.loop-s-test.true, c.requires) in
    let old : slice_get (plans_in c.args.streams.now) c.loop-s.s ≡ Some c.index-streams-s.result.plan
    = item_at (λ (state : State). state.plan) c.args.streams.now c.loop-s.s c.index-streams-s.result c.index-streams-s.result.plan inside c.index-streams-s.is refl in
    let new : slice_get (map arc_value c.args.plans.now) c.loop-s.s ≡ Some c.deref.result.now
    = item_at arc_value c.args.plans.now c.loop-s.s c.index-plans-s.result c.deref.result.now c.loop-s-test.true c.index-plans-s.is c.deref.ensures in
    elim (cases_lt i c.loop-s.s) [
      | inl earlier ↦ c.loop-s.invariant i one other earlier p q
      | inr behind ↦ (
          let at : c.loop-s.s ≡ i = omega (arith, less, behind) in
          let this : c.index-streams-s.result.plan ≡ one = same_Some c.index-streams-s.result.plan one (sym old ∙ ap (slice_get (plans_in c.args.streams.now)) at ∙ p) in
          let that : c.deref.result.now ≡ other = same_Some c.deref.result.now other (sym new ∙ ap (slice_get (map arc_value c.args.plans.now)) at ∙ q) in
          subst (λ (x : PlanValue). IsExtended x other) this (subst (IsExtended c.index-streams-s.result.plan) that (c.is_extended.ensures.0 c.if-not-is_extended.false)))
    ]

pub returns : goal.returns
returns c = (
  λ _. record {
    count = length-map c.args.plans.now arc_value ∙ c.requires ∙ sym (length-map c.args.streams.now (λ (state : State). state.plan));
    each_plan = λ s one other p q.
        let inside : s < length (map arc_value c.args.plans.now) = slice_get_within (map arc_value c.args.plans.now) s other q in
        let long : length (map arc_value c.args.plans.now) ≡ length c.args.plans.now = length-map c.args.plans.now arc_value in
        c.loop-s.invariant s one other (omega (arith, inside, long, c.loop-s-test.false)) p q;
  },
  λ _. refl,
)
