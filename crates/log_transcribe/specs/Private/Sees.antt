-- What is seen of a feed, one event and one message after another.
use Rattle.std.specs.Prelude.{◌≡◌, ◌<◌, ℕ, Bool, true, false, List, length, Result, Ok, Err}
use Rattle.list_laws.specs.Outcome.{◌>>=◌, Refuses}
use Rattle.item_readers.specs.Reading.{Reading}
use Rattle.proto_wire.specs.declared.fault.FrameFault.{FrameFault}
use Rattle.vevent.specs.EventValue.{EventValue}
use Rattle.vevent.specs.declared.fault.EventFault.{EventFault}
use Rattle.source_feed.specs.declared.fault.FeedFault.{FeedFault}
use Rattle.source_feed.specs.EventList.{end_of_message, events_in_messages}
use Rattle.source_feed.specs.FaultNumber.{meant_of}
use Rattle.log_feed.specs.declared.table.Stage.{Stage}
use Rattle.log_laws.specs.Source.{SourceTables}
use Rattle.log_transcribe.specs.Said.{events_said, to_end, reading_said}

-- what the events of a message say that are still to come
abbrev pub message_said : SourceTables → Reading EventValue EventFault → List Stage → Result (List Stage) FeedFault
message_said s r stages = events_said s r.items stages >>= λ new. to_end (end_of_message r.fault) new

-- and those of the messages that are still to come
abbrev pub messages_said : SourceTables → Reading (List ℕ) FrameFault → List Stage → Result (List Stage) FeedFault
messages_said s r stages = reading_said s (events_in_messages r.items r.fault) stages

-- what a call that sees the next event answers and leaves, and whether there was one
abbrev pub SeesEvent : SourceTables → Reading EventValue EventFault → Result Bool FeedFault → Reading EventValue EventFault → List Stage → List Stage → Type 0
SeesEvent s old (Ok true) new stages next = (message_said s old stages ≡ message_said s new next) × (length new.items < length old.items)
SeesEvent s old (Ok false) new stages next = message_said s old stages ≡ Ok next
SeesEvent s old (Err fault) new stages next = Refuses meant_of fault (message_said s old stages)

-- the same of the next message
abbrev pub SeesMessage : SourceTables → Reading (List ℕ) FrameFault → Result Bool FeedFault → Reading (List ℕ) FrameFault → List Stage → List Stage → Type 0
SeesMessage s old (Ok true) new stages next = (messages_said s old stages ≡ messages_said s new next) × (length new.items < length old.items)
SeesMessage s old (Ok false) new stages next = messages_said s old stages ≡ Ok next
SeesMessage s old (Err fault) new stages next = Refuses meant_of fault (messages_said s old stages)
