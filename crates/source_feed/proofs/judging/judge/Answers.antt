use Rattle.std.proofs.Common.{◌≡◌, ◌∙◌, ℕ, ◌+◌, List, None, Some, refl, sym, ap, subst, length, drop}
use Rattle.std.specs.Prelude.{slice_get}
use Rattle.std.specs.Result.{result_err}
use Rattle.std.proofs.lemmas.List.{at_drop_all}
use Rattle.std.proofs.lemmas.Option.{slice_get_read}
use Rattle.std.proofs.lemmas.Result.{err_from_is_err_and}
use Rattle.source_feed.specs.Planned.{PlannedChangeValue}
use Rattle.source_feed.specs.Touches.{touches_of_change, touches_of}
use Rattle.source_feed.proofs.JudgedLaws.{at_item, behind_sound, at_unsound}
use Rattle.source_feed.proofs.judging.judge.Goals as goal

pub judge_change-requires : goal.judge_change-requires
judge_change-requires c =
    let i = c.loop-change.change-index in
    let change = c.change-item.result in
    let changes = c.changes-changes.result.now in
    let stands : slice_get changes i ≡ Some change = slice_get_read changes (length changes) i change refl c.loop-change-test.true c.change-item.is in
    c.requires i change (subst (λ all. slice_get all i ≡ Some change) c.changes-changes.ensures stands)

pub loop-change-init : goal.loop-change-init
loop-change-init c = refl

pub loop-change-preserved : goal.loop-change-preserved
loop-change-preserved c =
    let plan = c.args.plan.now in
    let n = c.args.group.now.number in
    let i = c.loop-change.change-index in
    let change = c.change-item.result in
    let changes = c.changes-changes.result.now in
    let told : result_err (touches_of_change plan c.number.result change) ≡ None = sym c.in_ok-judge_change.ensures in
    let sound : result_err (touches_of_change plan n change) ≡ None = ap (λ (m : ℕ). result_err (touches_of_change plan m change)) (sym c.number.ensures) ∙ told in
    sym (behind_sound plan n change (drop (i + 1) changes) sound)
    ∙ at_item (λ (cs : List PlannedChangeValue). result_err (touches_of plan n cs)) changes i change c.loop-change-test.true c.change-item.is
    ∙ c.loop-change.invariant

pub returns-in_err-judge_change : goal.returns-in_err-judge_change
returns-in_err-judge_change c =
    let plan = c.args.plan.now in
    let n = c.args.group.now.number in
    let i = c.loop-change.change-index in
    let change = c.change-item.result in
    let changes = c.changes-changes.result.now in
    let fault = c.in_err-judge_change.field-0.0 in
    let told : result_err (touches_of_change plan c.number.result change) ≡ Some fault = sym c.in_err-judge_change.ensures in
    let here : result_err (touches_of_change plan n change) ≡ Some fault = ap (λ (m : ℕ). result_err (touches_of_change plan m change)) (sym c.number.ensures) ∙ told in
    let p = err_from_is_err_and c.from_residual.result c.from_residual.ensures.1 in
    rw (p.1, p.2)
    (sym (at_unsound plan n change (drop (i + 1) changes) fault here)
    ∙ at_item (λ (cs : List PlannedChangeValue). result_err (touches_of plan n cs)) changes i change c.loop-change-test.true c.change-item.is
    ∙ c.loop-change.invariant
    ∙ ap (λ (cs : List PlannedChangeValue). result_err (touches_of plan n cs)) c.changes-changes.ensures)

pub returns : goal.returns
returns c =
    let plan = c.args.plan.now in
    let n = c.args.group.now.number in
    let changes = c.changes-changes.result.now in
    sym (at_drop_all (λ (cs : List PlannedChangeValue). result_err (touches_of plan n cs)) changes c.loop-change.change-index c.loop-change-test.false)
    ∙ c.loop-change.invariant
    ∙ ap (λ (cs : List PlannedChangeValue). result_err (touches_of plan n cs)) c.changes-changes.ensures
