-- The events of a response (`binlogdata.proto`, VStreamResponse: events = 1), in order, and the
-- fault that ends them: that of an event, or the wire's where the response stops to be fields.
use Rattle.std.specs.Prelude.{◌≡◌, ℕ, List, [], ◌∷◌, Option, Some, None, option_map, Result, Ok, Err}
use Rattle.proto_wire.specs.declared.fault.WireFault.{WireFault}
use Rattle.proto_wire.specs.Reading.{Reading}
use Rattle.proto_wire.specs.Field.{WireField, AreFields, fields_of}
use Rattle.vevent.specs.declared.fault.EventFault.{EventFault}
use Rattle.vevent.specs.declared.fault.EventFault.TheVariants.{Wire}
use Rattle.vevent.specs.EventValue.{EventValue}
use Rattle.proto_wire.specs.Parts.{parts_left}
use Rattle.vevent.specs.Event.{event_at}
use Rattle.vevent.specs.Standing.{IsEvent, IsRefused}

-- ---- as a relation

-- The messages are these events one after another, and then the messages' own end or fault, or a
-- message that is refused.
abbrev pub AreEvents : List (List ℕ) → Option WireFault → List EventValue → Option EventFault → Type 0
AreEvents [] end [] fault = fault ≡ option_map Wire end
AreEvents [] end (event ∷ events) fault = ⊥
AreEvents (message ∷ messages) end [] fault = (refusal : EventFault) × IsRefused message refusal × (fault ≡ Some refusal)
AreEvents (message ∷ messages) end (event ∷ events) fault = IsEvent message event × AreEvents messages end events fault

-- The bytes are a response of these events: they are fields one after another, and those of number 1
-- are the events.
abbrev pub IsResponse : List ℕ → Reading EventValue EventFault → Type 0
IsResponse bytes r = (fields : Reading WireField WireFault) × AreFields bytes fields × AreEvents (parts_left 1 fields).items fields.fault r.items r.fault

-- ---- as a function

-- an event before others, or the fault in its place
abbrev pub put_event : Result EventValue EventFault → Reading EventValue EventFault → Reading EventValue EventFault
put_event (Ok event) others = record { items = event ∷ others.items; fault = others.fault }
put_event (Err fault) others = record { items = []; fault = Some fault }

-- the events of these messages, and then the end or this fault
abbrev pub events_of : List (List ℕ) → Option WireFault → Reading EventValue EventFault
events_of [] end = record { items = []; fault = option_map Wire end }
events_of (e ∷ es) end = put_event (event_at e) (events_of es end)

-- the events of messages that are still to come
abbrev pub events_in : Reading (List ℕ) WireFault → Reading EventValue EventFault
events_in messages = events_of messages.items messages.fault

-- the reading that a fault has ended, or else what is still to come
abbrev pub unless_ended : Option EventFault → Reading EventValue EventFault → Reading EventValue EventFault
unless_ended None left = left
unless_ended (Some fault) left = record { items = []; fault = Some fault }

-- the events of a response, and the fault that ends them
unfoldable pub response_of : List ℕ → Reading EventValue EventFault
response_of bytes = events_in (parts_left 1 (fields_of bytes))
