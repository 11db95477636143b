use Rattle.std.proofs.Common.{[], Ok, sym, ap, ◌∙◌}
use Rattle.std.proofs.lemmas.Result.{err_from_is_err_and}
use Rattle.std.specs.Option.{option_map}
use Rattle.log_events.specs.Event.{log_event}
use Rattle.log_groups.specs.Step.{step_value}
use Rattle.log_groups.proofs.StepLaws.{next_event, next_end, next_fault, passes, steps, unread}
use Rattle.log_groups.proofs.step.next_step.Goals as goal

pub returns-in_err-event : goal.returns-in_err-event
returns-in_err-event c =
    let p = err_from_is_err_and c.from_residual.result c.from_residual.ensures.1 in
    rw (p.1, p.2) ([], sym c.loop-event.invariant ∙ next_fault c.loop-event.events.reading c.in_err-event.field-0.0 c.in_err-event.ensures.next.0 c.in_err-event.ensures.next.1)

pub returns-in_err-step : goal.returns-in_err-step
returns-in_err-step c =
    let p = err_from_is_err_and c.from_residual-in_err-step.result c.from_residual-in_err-step.ensures.1 in
    let given = c.in_ok-event.was ∙ ap (λ e. Ok e) c.in-Some.is in
    let next = next_event log_event c.loop-event.events.reading c.next_event.new.self.reading c.next_event.result c.in-Some.event c.next_event.ensures.next given in
    let wrong = unread (log_event c.in-Some.event) c.in_err-step.field-0.0 c.loop-event.events.reading c.next_event.new.self.reading next c.in_err-step.ensures in
    rw (p.1, p.2) (wrong.0, sym c.loop-event.invariant ∙ wrong.1)

pub returns-in-Some-2 : goal.returns-in-Some-2
returns-in-Some-2 c =
    let given = c.in_ok-event.was ∙ ap (λ e. Ok e) c.in-Some.is in
    let next = next_event log_event c.loop-event.events.reading c.next_event.new.self.reading c.next_event.result c.in-Some.event c.next_event.ensures.next given in
    let is = c.in_ok-step.ensures ∙ ap (λ o. Ok (option_map step_value o)) c.in-Some-2.is in
    sym c.loop-event.invariant ∙ steps (log_event c.in-Some.event) (step_value c.in-Some-2.step) c.loop-event.events.reading c.next_event.new.self.reading next is

pub loop-event-preserved : goal.loop-event-preserved
loop-event-preserved c =
    let given = c.in_ok-event.was ∙ ap (λ e. Ok e) c.in-Some.is in
    let next = next_event log_event c.loop-event.events.reading c.next_event.new.self.reading c.next_event.result c.in-Some.event c.next_event.ensures.next given in
    let is = c.in_ok-step.ensures ∙ ap (λ o. Ok (option_map step_value o)) c.in_default-2.is in
    sym (passes (log_event c.in-Some.event) c.loop-event.events.reading c.next_event.new.self.reading next is) ∙ c.loop-event.invariant

pub returns : goal.returns
returns c =
    let given = c.in_ok-event.was ∙ ap (λ e. Ok e) c.in_default.is in
    let end = next_end log_event c.loop-event.events.reading c.next_event.new.self.reading c.next_event.result c.next_event.ensures.next given in
    (sym c.loop-event.invariant ∙ end.0, end.1 ∙ c.loop-event.invariant)
