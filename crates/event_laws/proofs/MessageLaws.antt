-- Events that are written as messages are read again, and behind whole messages come those of other bytes.
use Rattle.std.proofs.Common.{◌≡◌, ℕ, ◌+◌, ◌^◌, ◌<◌, List, [], ◌∷◌, ◌++◌, length, map, Option, None, Some, Result, Ok, option_map, refl, sym, ap, ◌∙◌, arith, append_assoc}
use Rattle.std.proofs.lemmas.List.{length-append}
use Rattle.std.specs.List.{flat_map}
use Rattle.proto_wire.specs.declared.fault.WireFault.{WireFault}
use Rattle.proto_wire.specs.declared.fault.FrameFault.{FrameFault}
use Rattle.proto_wire.specs.Reading.{Reading, Spells}
use Rattle.proto_wire.specs.Varint.{shortest}
use Rattle.proto_wire.specs.Field.{WireField}
use Rattle.proto_wire.specs.Parts.{parts_left}
use Rattle.proto_wire.specs.Frame.{IsFrame, NoFrame, frame_at, frames_of}
use Rattle.proto_wire.specs.Writing.{FieldsAreReadAgain}
use Rattle.proto_wire.proofs.FieldLaws.{frame_reader}
use Rattle.proto_wire.proofs.ReadingLaws.{only_reading}
use Rattle.proto_wire.proofs.ShortestLaws.{shortest_is_varint}
use Rattle.vevent.specs.EventValue.{EventValue}
use Rattle.vevent.specs.Event.{event_at}
use Rattle.vevent.specs.declared.fault.EventFault.{EventFault}
use Rattle.vevent.specs.Response.{put_event, events_of, events_in, response_of}
use Rattle.vevent.specs.WrittenEvent.{message_fields}
use Rattle.vevent.proofs.WrittenParts.{reads_back, plain_messages, own_parts}
use Rattle.source_feed.specs.declared.fault.FeedFault.{FeedFault}
use Rattle.source_feed.specs.declared.fault.FeedFault.TheVariants.{Event}
use Rattle.source_feed.specs.EventList.{fault_of_frame, events_then, events_in_messages, events_of_feed}
use Rattle.source_feed.proofs.FrameLaws.{moved, read_behind}
use Rattle.event_laws.specs.WrittenMessages.{written_response, framed, written_messages}
use Rattle.event_laws.specs.Laws.{HaveEvents}

-- ---- lists

abbrev Read : Type 0
Read = Result EventValue EventFault

-- what two lists together are is what each is
record Split (f : List ℕ → Read) (xs ys : List (List ℕ)) (all : List EventValue) : Type 0 where
  front : List EventValue
  rest : List EventValue
  is : all ≡ front ++ rest
  fronts : map f xs ≡ map Ok front
  rests : map f ys ≡ map Ok rest

split : (f : List ℕ → Read) (xs ys : List (List ℕ)) (all : List EventValue) → map f (xs ++ ys) ≡ map Ok all → Split f xs ys all
split f [] ys all e = record { front = []; rest = all; is = refl; fronts = refl; rests = e }
split f (x ∷ xs) ys [] e = cc
split f (x ∷ xs) ys (v ∷ all) e =
    let here : f x ≡ Ok v = cc in
    let others : map f (xs ++ ys) ≡ map Ok all = cc in
    let s : Split f xs ys all = split f xs ys all others in
    record {
      front = v ∷ s.front;
      rest = s.rest;
      is = ap (λ (vs : List EventValue). v ∷ vs) s.is;
      fronts = ap (λ (r : Read). r ∷ map f xs) here ∙ ap (λ (rs : List Read). Ok v ∷ rs) s.fronts;
      rests = s.rests;
    }

-- ---- one message

events_are : (parts : List (List ℕ)) (events : List EventValue) → map event_at parts ≡ map Ok events → events_of parts None ≡ record { items = events; fault = None }
events_are [] [] e = refl
events_are [] (v ∷ events) e = cc
events_are (p ∷ parts) [] e = cc
events_are (p ∷ parts) (v ∷ events) e =
    let here : event_at p ≡ Ok v = cc in
    let others : map event_at parts ≡ map Ok events = cc in
    ap (λ (r : Read). put_event r (events_of parts None)) here ∙ ap (put_event (Ok v)) (events_are parts events others)

response_again : FieldsAreReadAgain → (parts : List (List ℕ)) (events : List EventValue) → length (written_response parts) < 2 ^ 64 → map event_at parts ≡ map Ok events
    → response_of (written_response parts) ≡ record { items = events; fault = None }
unfolding response_of
response_again again parts events short e =
    ap (λ (fields : Reading WireField WireFault). events_in (parts_left 1 fields)) (reads_back again (message_fields 1 parts) (plain_messages 1 parts (omega arith, omega arith)) short)
    ∙ ap (λ (ps : List (List ℕ)). events_of ps None) (own_parts 1 parts)
    ∙ events_are parts events e

-- ---- the messages

-- a message is no longer than all of them
shorter : (events : List (List ℕ)) (messages : List (List (List ℕ))) → length (written_messages (events ∷ messages)) < 2 ^ 64 → (length (written_response events) < 2 ^ 64) × (length (written_messages messages) < 2 ^ 64)
shorter events messages h =
    let message : List ℕ = written_response events in
    let size : List ℕ = shortest (length message) in
    let whole : length (written_messages (events ∷ messages)) ≡ length (framed message) + length (written_messages messages) = length-append (framed message) (written_messages messages) in
    let front : length (framed message) ≡ length size + length message = length-append size message in
    (omega (arith, h, whole, front), omega (arith, h, whole, front))

spells : (total : ℕ) (messages : List (List (List ℕ))) → length (written_messages messages) < 2 ^ 64 → Spells IsFrame (NoFrame total) (written_messages messages) (map written_response messages) None
spells total [] h = refl
spells total (events ∷ messages) h =
    let less = shorter events messages h in
    let message : List ℕ = written_response events in
    (framed message, written_messages messages, refl, (shortest (length message), shortest_is_varint (length message) less.0, refl), spells total messages less.1)

frames_again : (messages : List (List (List ℕ))) → length (written_messages messages) < 2 ^ 64 → frames_of (written_messages messages) ≡ record { items = map written_response messages; fault = None }
frames_again messages h =
    let bytes : List ℕ = written_messages messages in
    only_reading IsFrame (NoFrame (length bytes)) (frame_at (length bytes)) (frame_reader (length bytes)) bytes (map written_response messages) None (spells (length bytes) messages h)

each_again : FieldsAreReadAgain → (messages : List (List (List ℕ))) (events : List EventValue) → length (written_messages messages) < 2 ^ 64
    → map event_at (flat_map (λ parts. parts) messages) ≡ map Ok events → events_in_messages (map written_response messages) None ≡ record { items = events; fault = None }
each_again again [] [] h e = refl
each_again again [] (v ∷ events) h e = cc
each_again again (parts ∷ messages) events h e =
    let less = shorter parts messages h in
    let s : Split event_at parts (flat_map (λ parts. parts) messages) events = split event_at parts (flat_map (λ parts. parts) messages) events e in
    let others : Reading EventValue FeedFault = events_in_messages (map written_response messages) None in
    ap (λ (r : Reading EventValue EventFault). events_then r.items r.fault others) (response_again again parts s.front less.0 s.fronts)
    ∙ ap (λ (r : Reading EventValue FeedFault). events_then s.front None r) (each_again again messages s.rest less.1 s.rests)
    ∙ ap (λ (all : List EventValue). record { items = all; fault = None }) (sym s.is)

pub messages_again : FieldsAreReadAgain → (messages : List (List (List ℕ))) (events : List EventValue) → length (written_messages messages) < 2 ^ 64
    → map event_at (flat_map (λ parts. parts) messages) ≡ map Ok events → HaveEvents (written_messages messages) events
messages_again again messages events h e = record {
  whole = ap (λ (r : Reading (List ℕ) FrameFault). r.fault) (frames_again messages h);
  are = ap (λ (r : Reading (List ℕ) FrameFault). events_in_messages r.items r.fault) (frames_again messages h) ∙ each_again again messages events h e;
}

-- ---- behind whole messages

abbrev Events : Type 0
Events = Reading EventValue FeedFault

-- events before others
abbrev before : List EventValue → Events → Events
before events others = record { items = events ++ others.items; fault = others.fault }

one_end : (moving : FrameFault → FrameFault) (end : Option FrameFault) → fault_of_frame (option_map moving end) ≡ fault_of_frame end
one_end moving None = refl
one_end moving (Some fault) = refl

same_end : (moving : FrameFault → FrameFault) (messages : List (List ℕ)) (end : Option FrameFault) → events_in_messages messages (option_map moving end) ≡ events_in_messages messages end
same_end moving [] end = ap (λ (f : Option FeedFault). record { items = []; fault = f }) (one_end moving end)
same_end moving (m ∷ messages) end = ap (events_then (response_of m).items (response_of m).fault) (same_end moving messages end)

messages_behind : (messages others : List (List ℕ)) (end : Option FrameFault) (events : List EventValue) → events_in_messages messages None ≡ record { items = events; fault = None }
    → events_in_messages (messages ++ others) end ≡ before events (events_in_messages others end)
messages_behind [] others end events e =
    let none : [] ≡ events = ap (λ (r : Events). r.items) e in
    ap (λ (all : List EventValue). before all (events_in_messages others end)) none
messages_behind (m ∷ messages) others end events e = by (messages_behind messages others end) (response_of m).items (response_of m).fault e
  where
    by : ((later : List EventValue) → events_in_messages messages None ≡ record { items = later; fault = None } → events_in_messages (messages ++ others) end ≡ before later (events_in_messages others end))
        → (items : List EventValue) (fault : Option EventFault) → events_then items fault (events_in_messages messages None) ≡ record { items = events; fault = None }
        → events_then items fault (events_in_messages (messages ++ others) end) ≡ before events (events_in_messages others end)
    by rest_behind items (Some fault) e = let no : Some (Event fault) ≡ None = ap (λ (r : Events). r.fault) e in cc
    by rest_behind items None e =
        let rest : Events = events_in_messages messages None in
        let ends : rest.fault ≡ None = ap (λ (r : Events). r.fault) e in
        let are : items ++ rest.items ≡ events = ap (λ (r : Events). r.items) e in
        let it : events_in_messages messages None ≡ record { items = rest.items; fault = None } = ap (λ (f : Option FeedFault). record { items = rest.items; fault = f }) ends in
        ap (events_then items None) (rest_behind rest.items it)
        ∙ ap (λ (all : List EventValue). record { items = all; fault = (events_in_messages others end).fault }) (sym (append_assoc items rest.items (events_in_messages others end).items))
        ∙ ap (λ (all : List EventValue). before all (events_in_messages others end)) are

pub bytes_behind : (whole rest : List ℕ) (events : List EventValue) → HaveEvents whole events
    → events_of_feed (whole ++ rest) ≡ record { items = events ++ (events_of_feed rest).items; fault = (events_of_feed rest).fault }
bytes_behind whole rest events h =
    let messages : List (List ℕ) = (frames_of whole).items in
    let mine : events_in_messages messages None ≡ record { items = events; fault = None } = ap (events_in_messages messages) (sym h.whole) ∙ h.are in
    ap (λ (r : Reading (List ℕ) FrameFault). events_in_messages r.items r.fault) (read_behind whole rest h.whole)
    ∙ same_end (moved (length whole)) (messages ++ (frames_of rest).items) (frames_of rest).fault
    ∙ messages_behind messages (frames_of rest).items (frames_of rest).fault events mine
