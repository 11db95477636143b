-- The first message of some bytes, and its events.
use Rattle.std.proofs.Common.{◌≡◌, ℕ, ◌-◌, ◌<◌, ◌≤◌, List, [], ◌∷◌, ◌++◌, length, map, take, drop, Option, None, Some, Result, Ok, Err, refl, sym, ap, subst, ◌∙◌, inl, inr, append_assoc}
use Rattle.std.proofs.lemmas.List.{append-nil, length-take-le, take-append-drop}
use Rattle.proto_wire.specs.declared.fault.FrameFault.{FrameFault}
use Rattle.proto_wire.specs.declared.fault.WireFault.{WireFault}
use Rattle.proto_wire.specs.declared.fault.WireFault.TheVariants.{Truncated}
use Rattle.proto_wire.specs.Reading.{Reading}
use Rattle.proto_wire.specs.Varint.{IsVarint, varint_at}
use Rattle.proto_wire.specs.Field.{sized_at, fields_of}
use Rattle.proto_wire.specs.Frame.{IsFrame, NoFrame, located, frame_at, frames_of}
use Rattle.proto_wire.specs.Parts.{parts}
use Rattle.proto_wire.proofs.FieldLaws.{frame_reader, sized_refuses}
use Rattle.proto_wire.proofs.ReadingLaws.{reading-fault, only_reading}
use Rattle.proto_wire.proofs.VarintLaws.{varint_found, varint_refused}
use Rattle.vevent.specs.declared.fault.EventFault.{EventFault}
use Rattle.vevent.specs.EventValue.{EventValue}
use Rattle.vevent.specs.Event.{event_at}
use Rattle.vevent.specs.Response.{put_event, events_of, response_of}
use Rattle.source_feed.specs.declared.fault.FeedFault.{FeedFault}
use Rattle.source_feed.specs.declared.fault.FeedFault.TheVariants.{Event}
use Rattle.source_feed.specs.EventList.{events_then, events_in_messages, events_of_feed}
use Rattle.source_feed.proofs.FrameLaws.{frames_none, moved, read_behind}
use Rattle.event_laws.specs.Laws.{HaveEvents, IsRest}
use Rattle.event_laws.proofs.RestLaws.{rest_of_whole}
use Rattle.feed_bytes.specs.Private.Search.{IsNextMessage}
use Rattle.std.specs.Option.{option_map}

-- ---- where none stands

no_frame : (bytes : List ℕ) (fault : WireFault) → sized_at bytes ≡ Err fault → (frames_of bytes).items ≡ []
unfolding frame_at
no_frame [] fault e = ap (λ (r : Reading (List ℕ) FrameFault). r.items) frames_none
no_frame (b ∷ bytes) fault e =
    let total : ℕ = length (b ∷ bytes) in
    ap (λ (r : Reading (List ℕ) FrameFault). r.items)
    (reading-fault (frame_at total) (b ∷ bytes) (record { place = total - total; cause = fault }) (λ q. cc) (ap (located (total - total)) e))

pub no_size : (bytes : List ℕ) (fault : WireFault) → varint_at bytes ≡ Err fault → (frames_of bytes).items ≡ []
no_size bytes fault e = no_frame bytes fault (sized_refuses bytes fault (inl (varint_refused bytes fault e)))

pub too_short : (bytes rest : List ℕ) (size : ℕ) → varint_at bytes ≡ Ok (size, rest) → length rest < size → (frames_of bytes).items ≡ []
too_short bytes rest size e less =
    let v = varint_found bytes (size, rest) e in
    no_frame bytes Truncated (sized_refuses bytes Truncated (inr (refl, (v.0, rest, size, v.1, v.2, less))))

-- ---- where one stands

pub next_found : (bytes rest message behind : List ℕ) (size : ℕ) → varint_at bytes ≡ Ok (size, rest) → size ≤ length rest → message ≡ take size rest → behind ≡ drop size rest → IsNextMessage bytes message behind
next_found bytes rest message behind size e le m b =
    let v = varint_found bytes (size, rest) e in
    let long : length message ≡ size = ap length m ∙ length-take-le size rest le in
    let both : message ++ behind ≡ rest = ap (λ (w : List ℕ). w ++ behind) m ∙ ap (λ (w : List ℕ). take size rest ++ w) b ∙ take-append-drop size rest in
    record { size = v.0; sized = subst (IsVarint v.0) (sym long) v.2; parts = v.1 ∙ ap (λ (w : List ℕ). v.0 ++ w) (sym both) ∙ sym (append_assoc v.0 message behind) }

-- ---- its events

abbrev Read : Type 0
Read = Result EventValue EventFault

abbrev good : EventValue → Read
good event = Ok event

abbrev Events : Type 0
Events = Reading EventValue FeedFault

no_fault : {P : Type 0} (fault : EventFault) → Some fault ≡ None → P
no_fault fault e = cc

events_back : (ps : List (List ℕ)) (end : Option WireFault) → (events_of ps end).fault ≡ None → map event_at ps ≡ map good (events_of ps end).items
events_back [] end e = refl
events_back (p ∷ ps) end e = by (event_at p) (events_of ps end) e (events_back ps end)
  where
    by : (r : Read) (others : Reading EventValue EventFault) → (put_event r others).fault ≡ None → (others.fault ≡ None → map event_at ps ≡ map good others.items)
        → r ∷ map event_at ps ≡ map good (put_event r others).items
    by (Ok v) others e rest = ap (λ (rs : List Read). good v ∷ rs) (rest e)
    by (Err fault) others e rest = no_fault fault e

message_back : (message : List ℕ) → (response_of message).fault ≡ None → map event_at (parts 1 message) ≡ map good (response_of message).items
unfolding response_of
message_back message e = events_back (parts 1 message) (fields_of message).fault e

-- the events of some bytes are those of their first message, and those behind it
pub record IsFirstOf (message rest : List ℕ) (all : List EventValue) : Type 0 where
  pub inside : List EventValue
  pub later : List EventValue
  pub are : all ≡ inside ++ later
  pub read : map event_at (parts 1 message) ≡ map Ok inside
  pub have : HaveEvents rest later

module _ (bytes message rest : List ℕ) (all : List EventValue) (next : IsNextMessage bytes message rest) (have : HaveEvents bytes all) where
  abbrev whole : List ℕ
  whole = next.size ++ message

  one : frames_of whole ≡ record { items = message ∷ []; fault = None }
  one =
      only_reading IsFrame (NoFrame (length whole)) (frame_at (length whole)) (frame_reader (length whole)) whole (message ∷ []) None
      (whole, [], sym (append-nil whole), (next.size, next.sized, refl), refl)

  abbrev others : Events
  others = events_in_messages (frames_of rest).items (option_map (moved (length whole)) (frames_of rest).fault)

  all_are : events_then (response_of message).items (response_of message).fault others ≡ record { items = all; fault = None }
  all_are =
      ap (λ (ms : List (List ℕ)). events_in_messages (ms ++ (frames_of rest).items) (option_map (moved (length whole)) (frames_of rest).fault)) (sym (ap (λ (r : Reading (List ℕ) FrameFault). r.items) one))
      ∙ ap (λ (r : Reading (List ℕ) FrameFault). events_in_messages r.items r.fault) (sym (read_behind whole rest (ap (λ (r : Reading (List ℕ) FrameFault). r.fault) one)))
      ∙ ap events_of_feed (sym next.parts)
      ∙ have.are

  sound : (response_of message).fault ≡ None
  sound = by (response_of message).fault (ap (λ (r : Events). r.fault) all_are)
    where
      by : (fault : Option EventFault) → (events_then (response_of message).items fault others).fault ≡ None → fault ≡ None
      by None e = refl
      by (Some fault) e = let no : Some (Event fault) ≡ None = e in cc

  abbrev mine : List EventValue
  mine = (response_of message).items

  of_whole : HaveEvents whole mine
  of_whole = record {
    whole = ap (λ (r : Reading (List ℕ) FrameFault). r.fault) one;
    are = ap (λ (r : Reading (List ℕ) FrameFault). events_in_messages r.items r.fault) one
        ∙ ap (λ (f : Option EventFault). events_then mine f (record { items = []; fault = None })) sound
        ∙ ap (λ (events : List EventValue). record { items = events; fault = None }) (append-nil mine);
  }

  behind : IsRest rest mine all
  behind = rest_of_whole whole rest mine all of_whole (subst (λ (b : List ℕ). HaveEvents b all) next.parts have)

  pub first_of : IsFirstOf message rest all
  first_of = record { inside = mine; later = behind.others; are = behind.are; read = message_back message sound; have = behind.have }
