use Rattle.std.proofs.Common.{◌≡◌, ◌∙◌, Err, length, map, slice_get, sym, ap, subst}
use Rattle.std.proofs.lemmas.Result.{err_from_is_err_and}
use Rattle.std.specs.Arc.{arc_value}
use Rattle.std.specs.String.{string_bytes}
use Rattle.vrepl_main.specs.Given.{given_value}
use Rattle.vrepl_compact.specs.Asked.{asked_as, plan_or_none}
use Rattle.vrepl_compact.specs.Wanting.{MayWantMemory}
use Rattle.vrepl_compact.proofs.AskedLaws.{compacted_behind, given_memory, one_error, refused_at, refused_behind, told_behind}
use Rattle.vrepl_compact.proofs.WantingLaws.{none_wanted, planned_some}
use Rattle.vrepl_compact.proofs.compacting.compacted.Goals as goal

pub returns-clause-compacted : goal.returns-clause-compacted
returns-clause-compacted g c =
    let inputs = c.args.inputs.now in
    let plans = map arc_value c.args.planned.now.plans.items in
    let made = c.in_ok-new.new.made in
    compacted_behind inputs (plan_or_none (slice_get plans inputs.stream)) (asked_as plans (given_value c.args.planned.now.given)) (arc_value c.in_ok-plan.plan.now) made.groups made.rows made.feed
    (rw c.deref.ensures.value at c.in_ok-plan.ensures.plan) (rw c.deref-2.ensures.value at c.in_ok-new.ensures.compacted)

pub returns-in_err-plan-clause-refused : goal.returns-in_err-plan-clause-refused
returns-in_err-plan-clause-refused g c =
    let inputs = c.args.inputs.now in
    let plans = map arc_value c.args.planned.now.plans.items in
    let p = err_from_is_err_and c.from_residual.result c.from_residual.ensures.1 in
    rw (p.1, p.2) (refused_at c.in_err-plan.field-0.0 (plan_or_none (slice_get plans inputs.stream)) (asked_as plans (given_value c.args.planned.now.given)) (rw c.deref.ensures.value at c.in_err-plan.ensures.refused))

pub returns-in_err-new-clause-refused : goal.returns-in_err-new-clause-refused
returns-in_err-new-clause-refused g c =
    let inputs = c.args.inputs.now in
    let plans = map arc_value c.args.planned.now.plans.items in
    let p = err_from_is_err_and c.from_residual-in_err-new.result c.from_residual-in_err-new.ensures.1 in
    rw (p.1, p.2)
    (refused_behind inputs c.in_err-new.field-0.0 (plan_or_none (slice_get plans inputs.stream)) (asked_as plans (given_value c.args.planned.now.given)) (arc_value c.in_ok-plan.plan.now)
    (rw c.deref.ensures.value at c.in_ok-plan.ensures.plan) (rw c.deref-2.ensures.value at c.in_err-new.ensures.refused))

pub returns-clause-told : goal.returns-clause-told
returns-clause-told g c =
    let inputs = c.args.inputs.now in
    let plans = map arc_value c.args.planned.now.plans.items in
    let made = c.in_ok-new.new.made in
    told_behind (plan_or_none (slice_get plans inputs.stream)) (asked_as plans (given_value c.args.planned.now.given)) (arc_value c.in_ok-plan.plan.now) made.groups made.rows (length made.feed) (string_bytes c.in_ok-new.new.line)
    (rw c.deref.ensures.value at c.in_ok-plan.ensures.plan) (rw c.deref-2.ensures.value at c.in_ok-new.ensures.told)

pub returns-in_err-plan-clause-memory : goal.returns-in_err-plan-clause-memory
returns-in_err-plan-clause-memory g c e =
    let p = err_from_is_err_and c.from_residual.result c.from_residual.ensures.1 in
    none_wanted c.in_err-plan.field-0.0 c.in_err-plan.ensures.memory (given_memory c.in_err-plan.field-0.0 (sym p.2 ∙ one_error c.from_residual.result _ _ p.1 e))

pub returns-in_err-new-clause-memory : goal.returns-in_err-new-clause-memory
returns-in_err-new-clause-memory g c e =
    let plans = map arc_value c.args.planned.now.plans.items in
    let p = err_from_is_err_and c.from_residual-in_err-new.result c.from_residual-in_err-new.ensures.1 in
    subst (λ o. MayWantMemory o (given_value c.args.planned.now.given)) (planned_some (slice_get plans c.args.inputs.now.stream) (arc_value c.in_ok-plan.plan.now) (rw c.deref.ensures.value at c.in_ok-plan.ensures.plan))
    (c.in_err-new.ensures.memory (ap Err (sym p.2 ∙ one_error c.from_residual-in_err-new.result _ _ p.1 e)))
