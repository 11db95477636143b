use Rattle.std.proofs.Common.{refl, sym, ap, ◌∙◌}
use Rattle.std.proofs.lemmas.Result.{err_from_is_err_and}
use Rattle.log_events.specs.Event.{log_event, event_at}
use Rattle.item_readers.proofs.ReadingLaws.{empty_list, not_empty, next_none, next_err, next_some}
use Rattle.log_events.proofs.EventLaws.{event_reader, event_size}
use Rattle.log_events.proofs.events.Events.next_event.Goals as goal

pub returns-then-is_empty-clause-next : goal.returns-then-is_empty-clause-next
returns-then-is_empty-clause-next c =
    next_none (event_at c.self.inside.checked) c.self.inside.rest.now c.args.self.now.reading (empty_list c.self.inside.rest.now c.if-is_empty.ensures) (ap (λ v. v.reading) c.self.view_is)

pub returns-in_err-event-clause-next : goal.returns-in_err-event-clause-next
returns-in_err-event-clause-next c =
    let p = err_from_is_err_and c.from_residual.result c.from_residual.ensures.1 in
    rw (p.1, p.2)
    (next_err (event_at c.self.inside.checked) c.self.inside.rest.now c.args.self.now.reading c.in_err-event.field-0.0 (not_empty c.self.inside.rest.now c.if-is_empty.ensures) c.in_err-event.ensures (ap (λ v. v.reading) c.self.view_is))

pub returns-in_err-event-clause-left : goal.returns-in_err-event-clause-left
returns-in_err-event-clause-left c =
    let p = err_from_is_err_and c.from_residual.result c.from_residual.ensures.1 in
    rw p.1 refl

pub returns-clause-next : goal.returns-clause-next
returns-clause-next c =
    let checked = c.self.inside.checked in
    next_some (event_at checked) (event_reader checked).takes c.self.inside.rest.now c.args.self.now.reading (log_event c.in_ok-event.event, c.in_ok-event.rest.now) c.in_ok-event.ensures (ap (λ v. v.reading) c.self.view_is)

pub returns-clause-left : goal.returns-clause-left
returns-clause-left c =
    sym (ap (λ v. v.left) c.self.view_is) ∙ event_size c.self.inside.checked c.self.inside.rest.now (log_event c.in_ok-event.event, c.in_ok-event.rest.now) c.in_ok-event.ensures
