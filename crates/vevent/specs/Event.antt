-- An event: what its bytes say, or the first of its faults in the order of their numbers.
use Rattle.std.specs.Prelude.{ℕ, not, List, option_map, Result, Ok, ok_or}
use Rattle.std.specs.List.{list_any}
use Rattle.list_laws.specs.Outcome.{◌>>=◌, unless, refused_if}
use Rattle.vevent.specs.declared.fault.EventFault.{EventFault}
use Rattle.vevent.specs.declared.fault.EventFault.TheVariants.{Wire, RepeatedMessage, BadType, NotUtf8, PartialRow, Row}
use Rattle.vevent.specs.declared.kind.EventKind.{EventKind}
use Rattle.vevent.specs.EventValue.{EventValue}
use Rattle.vevent.specs.Kind.{kind_of}
use Rattle.proto_wire.specs.Parts.{scalar}
use Rattle.vevent.specs.Fault.{event_wire_fault, repeats_a_message, are_texts, row_changes, is_partial, first_row_fault}
use Rattle.vevent.specs.Message.{event_of}

-- the type of an event, the whole varint of its field 1
abbrev pub type_of : List ℕ → Result EventKind EventFault
type_of event = ok_or (kind_of (scalar 1 event)) (BadType (scalar 1 event))

-- the type of an event that is accepted
unfoldable pub accepted_at : List ℕ → Result EventKind EventFault
accepted_at event = do
  _ ← unless (option_map Wire (event_wire_fault event))
  _ ← refused_if (repeats_a_message event) RepeatedMessage
  kind ← type_of event
  _ ← refused_if (not (are_texts kind event)) NotUtf8
  _ ← refused_if (list_any is_partial (row_changes event)) PartialRow
  _ ← unless (option_map Row (first_row_fault (row_changes event)))
  Ok kind

-- the event that the bytes are
unfoldable pub event_at : List ℕ → Result EventValue EventFault
event_at event = do
  kind ← accepted_at event
  Ok (event_of kind event)
