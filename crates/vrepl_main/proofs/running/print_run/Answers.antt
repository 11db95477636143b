use Rattle.std.proofs.Common.{map, subst, Result}
use Rattle.vrepl_choices.specs.UntilValue.{until_value}
use Rattle.std.proofs.lemmas.Result.{err_from_is_err_and}
use Rattle.std.specs.Arc.{arc_value}
use Rattle.apply_core.specs.Shown.{all_rows}
use Rattle.vrepl_main.specs.Opening.{OpenedValue}
use Rattle.vrepl_main.specs.Reasons.{Reason}
use Rattle.vrepl_main.specs.Running.{IsFilled, IsUnfilled}
use Rattle.vrepl_main.proofs.RunLaws.{opened_as, refuses_run, unwritten_run}
use Rattle.vrepl_main.proofs.running.print_run.Goals as goal

pub returns-in_err-plan-clause-refused : goal.returns-in_err-plan-clause-refused
returns-in_err-plan-clause-refused g c =
    let inputs = c.args.inputs.now in
    let p = err_from_is_err_and c.from_residual.result c.from_residual.ensures.1 in
    let e = opened_as (map until_value inputs.until.now) inputs.feeds.items (λ feed. feed.items) inputs.feed_form inputs.workflow.items _ (rw c.deref.ensures.value at c.in-Ok.ensures) in
    rw (p.1, p.2) (refuses_run c.in_err-plan.field-0.0 _ _ (subst (λ (r : Result OpenedValue Reason). IsUnfilled c.in_err-plan.field-0.0 r) e (rw c.deref-2.ensures.value at c.in_err-plan.ensures.refused)))

pub returns-in-Ok-print_rows-clause-printed : goal.returns-in-Ok-print_rows-clause-printed
returns-in-Ok-print_rows-clause-printed g c =
    let inputs = c.args.inputs.now in
    let e = opened_as (map until_value inputs.until.now) inputs.feeds.items (λ feed. feed.items) inputs.feed_form inputs.workflow.items _ (rw c.deref.ensures.value at c.in-Ok.ensures) in
    let filled = subst (λ (r : Result OpenedValue Reason). IsFilled r (record { plan = arc_value c.in_ok-plan.plan; rows = all_rows c.in_ok-plan.fed.board.rows })) e (rw c.deref-2.ensures.value at c.in_ok-plan.ensures.filled) in
    (record { plan = arc_value c.in_ok-plan.plan; rows = all_rows c.in_ok-plan.fed.board.rows }, filled, rw (c.deref-3.ensures, c.board.ensures.board) at c.in-Ok-print_rows.ensures.printed)

pub returns-clause-refused : goal.returns-clause-refused
returns-clause-refused g c =
    let inputs = c.args.inputs.now in
    let e = opened_as (map until_value inputs.until.now) inputs.feeds.items (λ feed. feed.items) inputs.feed_form inputs.workflow.items _ (rw c.deref.ensures.value at c.in-Ok.ensures) in
    let filled = subst (λ (r : Result OpenedValue Reason). IsFilled r (record { plan = arc_value c.in_ok-plan.plan; rows = all_rows c.in_ok-plan.fed.board.rows })) e (rw c.deref-2.ensures.value at c.in_ok-plan.ensures.filled) in
    unwritten_run c.in-Err.refusal _ (record { plan = arc_value c.in_ok-plan.plan; rows = all_rows c.in_ok-plan.fed.board.rows }) _ _ filled (rw (c.deref-3.ensures, c.board.ensures.board) at c.in-Err.ensures.printed) c.in-Err.ensures.refused
