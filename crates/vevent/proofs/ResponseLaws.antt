-- The events of a response are those that its bytes spell, and no others.
use Rattle.std.proofs.Common.{◌≡◌, ℕ, List, [], ◌∷◌, Option, refl, sym}
use Rattle.std.specs.Prelude.{Result, Ok, Err}
use Rattle.proto_wire.specs.declared.fault.WireFault.{WireFault}
use Rattle.proto_wire.specs.Reading.{Reading}
use Rattle.vevent.specs.declared.fault.EventFault.{EventFault}
use Rattle.vevent.specs.EventValue.{EventValue}
use Rattle.vevent.specs.Event.{event_at}
use Rattle.vevent.specs.Response.{AreEvents, put_event, events_of}
use Rattle.vevent.proofs.Verdicts.{event_from, refusal_from, every_event, every_refusal}

are_put : (message : List ℕ) (messages : List (List ℕ)) (end : Option WireFault) (read : Result EventValue EventFault) → event_at message ≡ read → AreEvents messages end (events_of messages end).items (events_of messages end).fault → AreEvents (message ∷ messages) end (put_event read (events_of messages end)).items (put_event read (events_of messages end)).fault
are_put message messages end (Ok event) e others = (event_from message event e, others)
are_put message messages end (Err fault) e others = (fault, refusal_from message fault e, refl)

pub are_events : (messages : List (List ℕ)) (end : Option WireFault) → AreEvents messages end (events_of messages end).items (events_of messages end).fault
are_events [] end = refl
are_events (message ∷ messages) end = are_put message messages end (event_at message) refl (are_events messages end)

abbrev pub Events : Type 0
Events = Reading EventValue EventFault

pub no_others : (messages : List (List ℕ)) (end : Option WireFault) (events : List EventValue) (fault : Option EventFault) → AreEvents messages end events fault → let r : Events = record { items = events; fault = fault } in r ≡ events_of messages end
no_others [] end [] fault h = rw h refl
no_others [] end (event ∷ events) fault h = absurd h
no_others (message ∷ messages) end [] fault h = rw (every_refusal message h.0 h.1, h.2) refl
no_others (message ∷ messages) end (event ∷ events) fault h = rw (every_event message event h.0, sym (no_others messages end events fault h.1)) refl
