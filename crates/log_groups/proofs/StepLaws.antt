-- The steps of a log's events, one event on.
use Rattle.std.proofs.Common.{◌≡◌, List, [], ◌∷◌, Option, None, Some, Result, Ok, Err, refl, ap, ◌∙◌}
use Rattle.item_readers.specs.Reading.{Reading, Next}
use Rattle.log_events.specs.Event.{LogEvent}
use Rattle.log_events.specs.declared.fault.EventFault.{EventFault}
use Rattle.log_groups.specs.declared.fault.GroupFault.{GroupFault}
use Rattle.log_groups.specs.declared.fault.GroupFault.TheVariants.{Event}
use Rattle.log_groups.specs.Step.{StepValue, LogStep, step_of, put_step, steps_in, steps_of, NextStep}

-- the next event is the front of what was still to come
pub next_event : {X : Type 0} (view : X → LogEvent) (old new : Reading LogEvent EventFault) (r : Result (Option X) EventFault) (x : X) → Next view old r new → r ≡ Ok (Some x) → steps_of old ≡ put_step (step_of (view x)) (steps_of new)
unfolding steps_in
next_event view old new r x next e =
    let taken = rw e at next in
    rw (taken.0, taken.1) refl

pub next_end : {X : Type 0} (view : X → LogEvent) (old new : Reading LogEvent EventFault) (r : Result (Option X) EventFault) → Next view old r new → r ≡ Ok None → (steps_of old ≡ []) × (steps_of new ≡ steps_of old)
unfolding steps_in
next_end view old new r next e =
    let ended = rw e at next in
    (rw (ended.0, ended.1) refl, ap steps_of ended.2)

pub next_fault : (old : Reading LogEvent EventFault) (fault : EventFault) → old.items ≡ [] → old.fault ≡ Some fault → steps_of old ≡ Err (Event fault) ∷ []
unfolding steps_in
next_fault old fault none e = rw (none, e) refl

-- an event that is no step, one that is, and one that isn't read
pub passes : (event : LogEvent) (old : Reading LogEvent EventFault) (new : Reading LogEvent EventFault) → steps_of old ≡ put_step (step_of event) (steps_of new) → step_of event ≡ Ok None → steps_of old ≡ steps_of new
passes event old new next e = next ∙ ap (λ (s : Result (Option StepValue) GroupFault). put_step s (steps_of new)) e

pub steps : (event : LogEvent) (step : StepValue) (old new : Reading LogEvent EventFault) → steps_of old ≡ put_step (step_of event) (steps_of new) → step_of event ≡ Ok (Some step) → steps_of old ≡ Ok step ∷ steps_of new
steps event step old new next e = next ∙ ap (λ (s : Result (Option StepValue) GroupFault). put_step s (steps_of new)) e

pub unread : (event : LogEvent) (fault : GroupFault) (old new : Reading LogEvent EventFault) → steps_of old ≡ put_step (step_of event) (steps_of new) → step_of event ≡ Err fault → (rest : List LogStep) × (steps_of old ≡ Err fault ∷ rest)
unread event fault old new next e = (steps_of new, next ∙ ap (λ (s : Result (Option StepValue) GroupFault). put_step s (steps_of new)) e)

-- what a call says that gave a step, or none
pub step_there : {X : Type 0} (view : X → StepValue) (old new : List LogStep) (r : Result (Option X) GroupFault) (x : X) → NextStep view old r new → r ≡ Ok (Some x) → old ≡ Ok (view x) ∷ new
step_there view old new r x next e = rw e at next

pub no_step : {X : Type 0} (view : X → StepValue) (old new : List LogStep) (r : Result (Option X) GroupFault) → NextStep view old r new → r ≡ Ok None → (old ≡ []) × (new ≡ old)
no_step view old new r next e = rw e at next
