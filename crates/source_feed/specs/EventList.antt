-- The events of a feed: those of all its messages, one after another.
use Rattle.std.specs.Prelude.{ℕ, List, [], ◌∷◌, ◌++◌, Option, None, Some}
use Rattle.proto_wire.specs.Reading.{Reading}
use Rattle.proto_wire.specs.Frame.{frames_of}
use Rattle.proto_wire.specs.declared.fault.FrameFault.{FrameFault}
use Rattle.vevent.specs.EventValue.{EventValue}
use Rattle.vevent.specs.Response.{response_of}
use Rattle.vevent.specs.declared.fault.EventFault.{EventFault}
use Rattle.source_feed.specs.declared.fault.FeedFault.{FeedFault}
use Rattle.source_feed.specs.declared.fault.FeedFault.TheVariants.{Frame, Event}

-- the end of the messages: a broken one is refused at its first byte
abbrev pub fault_of_frame : Option FrameFault → Option FeedFault
fault_of_frame None = None
fault_of_frame (Some fault) = Some Frame

-- the end of a message's events: what is no list of fields, or no event, is refused in its place
abbrev pub end_of_message : Option EventFault → Option FeedFault
end_of_message None = None
end_of_message (Some fault) = Some (Event fault)

-- a message's events, and behind them others; a fault in the message ends the events there
abbrev pub events_then : List EventValue → Option EventFault → Reading EventValue FeedFault → Reading EventValue FeedFault
events_then events None others = record { items = events ++ others.items; fault = others.fault }
events_then events (Some fault) others = record { items = events; fault = Some (Event fault) }

-- the events of some messages, where the messages end so
abbrev pub events_in_messages : List (List ℕ) → Option FrameFault → Reading EventValue FeedFault
events_in_messages [] end = record { items = []; fault = fault_of_frame end }
events_in_messages (message ∷ messages) end = events_then (response_of message).items (response_of message).fault (events_in_messages messages end)

-- the events of a feed, and the fault that ends them, if one does
abbrev pub events_of_feed : List ℕ → Reading EventValue FeedFault
events_of_feed feed = events_in_messages (frames_of feed).items (frames_of feed).fault
