-- One event or one message more of what is still to come.
use Rattle.std.proofs.Common.{◌≡◌, ℕ, zero, suc, ◌+◌, ◌≤◌, ◌||◌, Bool, true, false, List, [], ◌∷◌, length, Option, None, Some, Result, Ok, Err, refl, sym, ◌∙◌, ap, arith}
use Rattle.std.proofs.lemmas.List.{length-append}
use Rattle.std.proofs.lemmas.List.Folds.{list_any-append}
use Rattle.std.specs.List.{filter_map, cons_option, list_any}
use Rattle.proto_wire.specs.Parts.{part_in}
use Rattle.proto_wire.specs.declared.fault.WireFault.{WireFault}
use Rattle.proto_wire.specs.Reading.{Reading, Spells, reading_within, reading_of, put_first}
use Rattle.proto_wire.specs.Field.{field_at, fields_of}
use Rattle.proto_wire.specs.Frame.{IsFrame, NoFrame, AreFrames}
use Rattle.proto_wire.specs.declared.fault.FrameFault.{FrameFault}
use Rattle.vevent.specs.EventValue.{EventValue}
use Rattle.vevent.specs.Response.{response_of, events_of, put_event}
use Rattle.vevent.specs.Event.{event_at}
use Rattle.vevent.specs.declared.fault.EventFault.{EventFault}
use Rattle.source_feed.specs.declared.fault.FeedFault.{FeedFault}
use Rattle.source_feed.specs.declared.fault.FeedFault.TheVariants.{Memory}
use Rattle.list_laws.specs.Outcome.{◌>>=◌, unless, Refuses}
use Rattle.source_feed.specs.FaultNumber.{meant_of}
use Rattle.source_feed.specs.SourceValue.{SourceValue}
use Rattle.source_feed.specs.EventList.{end_of_message, events_then, events_in_messages}
use Rattle.source_feed.specs.PastEvents.{PastEvents}
use Rattle.source_feed.specs.Groups.{fault_at}
use Rattle.source_feed.specs.TakesMemory.{WantsFrom}
use Rattle.source_feed.proofs.MemoryLaws.{wants_front, wants_behind}
use Rattle.source_feed.specs.Private.EventByEvent.{past_behind}
use Rattle.source_feed.proofs.EventByEventLaws.{past_behind-events_then}

-- a refusal of one definition is one of another that is refused with it
pub refuses_along : {Y Z : Type 0} (fault : FeedFault) (one : Result Y FeedFault) (other : Result Z FeedFault)
    → (one ≡ Err fault → other ≡ Err fault) → Refuses meant_of fault one → Refuses meant_of fault other
refuses_along Memory one other h r = tt
refuses_along fault one other h r = h r

-- ---- messages of a feed

pub split_message : (message : List ℕ) (old new : Reading (List ℕ) FrameFault) → old.items ≡ message ∷ new.items → old.fault ≡ new.fault
    → events_in_messages old.items old.fault ≡ events_then (response_of message).items (response_of message).fault (events_in_messages new.items new.fault)
split_message message old new i f = ap (λ items. events_in_messages items old.fault) i ∙ ap (λ fault. events_in_messages (message ∷ new.items) fault) f

pub took_message : (source : SourceValue) (whole : Result PastEvents FeedFault) (history next : PastEvents) (message : List ℕ) (old new : Reading (List ℕ) FrameFault)
    → whole ≡ past_behind source history (events_in_messages old.items old.fault).items (events_in_messages old.items old.fault).fault → old.items ≡ message ∷ new.items → old.fault ≡ new.fault
    → past_behind source history (response_of message).items (end_of_message (response_of message).fault) ≡ Ok next
    → whole ≡ past_behind source next (events_in_messages new.items new.fault).items (events_in_messages new.items new.fault).fault
took_message source whole history next message old new w i f ok =
    w ∙ ap (λ (all : Reading EventValue FeedFault). past_behind source history all.items all.fault) (split_message message old new i f)
    ∙ past_behind-events_then source history (response_of message).items (response_of message).fault (events_in_messages new.items new.fault)
    ∙ ap (λ first. first >>= λ h. past_behind source h (events_in_messages new.items new.fault).items (events_in_messages new.items new.fault).fault) ok

pub refused_message : (source : SourceValue) (whole : Result PastEvents FeedFault) (history : PastEvents) (message : List ℕ) (old new : Reading (List ℕ) FrameFault) (fault : FeedFault)
    → whole ≡ past_behind source history (events_in_messages old.items old.fault).items (events_in_messages old.items old.fault).fault → old.items ≡ message ∷ new.items → old.fault ≡ new.fault
    → past_behind source history (response_of message).items (end_of_message (response_of message).fault) ≡ Err fault
    → whole ≡ Err fault
refused_message source whole history message old new fault w i f err =
    w ∙ ap (λ (all : Reading EventValue FeedFault). past_behind source history all.items all.fault) (split_message message old new i f)
    ∙ past_behind-events_then source history (response_of message).items (response_of message).fault (events_in_messages new.items new.fault)
    ∙ ap (λ first. first >>= λ h. past_behind source h (events_in_messages new.items new.fault).items (events_in_messages new.items new.fault).fault) err

-- ---- how many events there are

length-put_first : {A F : Type 0} (first : Result (A × List ℕ) F) (others : List ℕ → Reading A F) (most : ℕ)
    → ((rest : List ℕ) → length (others rest).items ≤ most) → length (put_first first others).items ≤ suc most
length-put_first (Ok x) others most h = omega (arith, h x.1)
length-put_first (Err f) others most h = omega arith

-- as many items as bytes at most
length-within : {A F : Type 0} (at : List ℕ → Result (A × List ℕ) F) (most : ℕ) (bytes : List ℕ) → length (reading_within at most bytes).items ≤ most
unfolding reading_within
length-within at zero bytes = omega arith
length-within at (suc most) [] = omega arith
length-within at (suc most) (b ∷ bytes) = length-put_first (at (b ∷ bytes)) (λ rest. reading_within at most rest) most (λ rest. length-within at most rest)

length-fields_of : (message : List ℕ) → length (fields_of message).items ≤ length message
unfolding reading_of
length-fields_of message = length-within field_at (length message) message

length-cons_option : {B : Type 0} (first : Option B) (items : List B) → length (cons_option first items) ≤ length items + 1
length-cons_option None items = omega arith
length-cons_option (Some item) items = omega arith

length-filter_map : {A B : Type 0} (f : A → Option B) (items : List A) → length (filter_map f items) ≤ length items
length-filter_map f [] = omega arith
length-filter_map f (item ∷ items) = omega (arith, length-cons_option (f item) (filter_map f items), length-filter_map f items)

length-put_event : (first : Result EventValue EventFault) (others : Reading EventValue EventFault) → length (put_event first others).items ≤ length others.items + 1
length-put_event (Ok event) others = omega arith
length-put_event (Err fault) others = omega arith

length-events_of : (parts : List (List ℕ)) (end : Option WireFault) → length (events_of parts end).items ≤ length parts
length-events_of [] end = omega arith
length-events_of (part ∷ parts) end = omega (arith, length-put_event (event_at part) (events_of parts end), length-events_of parts end)

-- the events of a message aren't more than its bytes
pub length-response_of : (message : List ℕ) → length (response_of message).items ≤ length message
unfolding response_of
length-response_of message =
    omega (
      arith,
      length-events_of (filter_map (part_in 1) (fields_of message).items) (fields_of message).fault,
      length-filter_map (part_in 1) (fields_of message).items,
      length-fields_of message,
    )

length-events_then : (items : List EventValue) (fault : Option EventFault) (others : Reading EventValue FeedFault)
    → length (events_then items fault others).items ≤ length items + length others.items
length-events_then items None others = omega (arith, length-append items others.items)
length-events_then items (Some fault) others = omega arith

-- the bytes of some messages
total : List (List ℕ) → ℕ
total [] = 0
total (message ∷ messages) = length message + total messages

length-events_in : (messages : List (List ℕ)) (end : Option FrameFault) → length (events_in_messages messages end).items ≤ total messages
unfolding total
length-events_in [] end = omega arith
length-events_in (message ∷ messages) end =
    omega (arith, length-events_then (response_of message).items (response_of message).fault (events_in_messages messages end), length-response_of message, length-events_in messages end)

total-frames : (NoItem : List ℕ → FrameFault → Type 0) (bytes : List ℕ) (messages : List (List ℕ)) (end : Option FrameFault) → Spells IsFrame NoItem bytes messages end → total messages ≤ length bytes
unfolding total
total-frames NoItem bytes [] end s = omega arith
total-frames NoItem bytes (message ∷ messages) end s =
    omega (arith, total-frames NoItem s.1 messages end s.4, ap length s.2, ap length s.3.2, length-append s.0 s.1, length-append s.3.0 message)

-- the events of a feed aren't more than its bytes
pub length-feed : (feed : List ℕ) (frames : Reading (List ℕ) FrameFault) → AreFrames feed frames → length (events_in_messages frames.items frames.fault).items ≤ length feed
length-feed feed frames s = omega (arith, length-events_in frames.items frames.fault, total-frames (NoFrame (length feed)) feed frames.items frames.fault s)

-- a fault that ends some events leaves no history behind them
ended_badly : (source : SourceValue) (next : PastEvents) (items : List EventValue) (fault : FeedFault) (history : PastEvents) → past_behind source history items (Some fault) ≡ Ok next → ⊥
ended_badly source next [] fault history e = cc
ended_badly source next (event ∷ items) fault history e = never_unless (fault_at source history event) (past_behind source (event ∷ history) items (Some fault)) (ended_badly source next items fault (event ∷ history)) e
  where
    never_unless : (first : Option FeedFault) (rest : Result PastEvents FeedFault) → (rest ≡ Ok next → ⊥) → (unless first >>= λ _. rest) ≡ Ok next → ⊥
    never_unless None rest h e = h e
    never_unless (Some f) rest h e = cc

-- and those behind it are as many less, unless the message ends them
pub events_behind : (source : SourceValue) (history next : PastEvents) (message : List ℕ) (old new : Reading (List ℕ) FrameFault) → old.items ≡ message ∷ new.items → old.fault ≡ new.fault
    → past_behind source history (response_of message).items (end_of_message (response_of message).fault) ≡ Ok next
    → length (response_of message).items + length (events_in_messages new.items new.fault).items ≡ length (events_in_messages old.items old.fault).items
events_behind source history next message old new i f ok =
    rw (split_message message old new i f) (behind (response_of message).items (response_of message).fault (events_in_messages new.items new.fault) history ok)
  where
    behind : (items : List EventValue) (fault : Option EventFault) (others : Reading EventValue FeedFault) (history : PastEvents)
        → past_behind source history items (end_of_message fault) ≡ Ok next → length items + length others.items ≡ length (events_then items fault others).items
    behind items None others history e = omega (arith, length-append items others.items)
    behind items (Some fault) others history e = absurd (ended_badly source next items _ history e)

-- what holds of one of the events to come holds of one of the message or of one behind it
pub any_behind : (P : EventValue → Bool) (source : SourceValue) (history next : PastEvents) (message : List ℕ) (old new : Reading (List ℕ) FrameFault) → old.items ≡ message ∷ new.items → old.fault ≡ new.fault
    → past_behind source history (response_of message).items (end_of_message (response_of message).fault) ≡ Ok next
    → list_any P (events_in_messages old.items old.fault).items ≡ (list_any P (response_of message).items || list_any P (events_in_messages new.items new.fault).items)
any_behind P source history next message old new i f ok =
    rw (split_message message old new i f) (behind (response_of message).items (response_of message).fault (events_in_messages new.items new.fault) ok)
  where
    behind : (items : List EventValue) (fault : Option EventFault) (others : Reading EventValue FeedFault)
        → past_behind source history items (end_of_message fault) ≡ Ok next → list_any P (events_then items fault others).items ≡ (list_any P items || list_any P others.items)
    behind items None others e = list_any-append P items others.items
    behind items (Some fault) others e = absurd (ended_badly source next items _ history e)

-- one message more is seen
or_behind : (before message behind : Bool) → ((before || message) || behind) ≡ (before || (message || behind))
or_behind true message behind = refl
or_behind false message behind = refl

pub seen_more : (before after message behind old all : Bool) → (before || old) ≡ all → old ≡ (message || behind) → after ≡ (before || message) → (after || behind) ≡ all
seen_more before after message behind old all whole split seen =
    ap (λ b. b || behind) seen ∙ or_behind before message behind ∙ ap (λ b. before || b) (sym split) ∙ whole

-- where memory may be wanted behind a message, it may be wanted from the message on
pub wants_next : (source : SourceValue) (history next : PastEvents) (message : List ℕ) (old new : Reading (List ℕ) FrameFault) → old.items ≡ message ∷ new.items → old.fault ≡ new.fault
    → past_behind source history (response_of message).items (end_of_message (response_of message).fault) ≡ Ok next
    → WantsFrom source next (events_in_messages new.items new.fault).items → WantsFrom source history (events_in_messages old.items old.fault).items
wants_next source history next message old new i f ok w =
    rw (split_message message old new i f) (behind (response_of message).items (response_of message).fault (events_in_messages new.items new.fault) ok w)
  where
    behind : (items : List EventValue) (fault : Option EventFault) (others : Reading EventValue FeedFault) → past_behind source history items (end_of_message fault) ≡ Ok next
        → WantsFrom source next others.items → WantsFrom source history (events_then items fault others).items
    behind items None others e w = wants_behind source history items others.items None next e w
    behind items (Some fault) others e w = absurd (ended_badly source next items _ history e)

-- and where it may be wanted in a message, too
pub wants_here : (source : SourceValue) (history : PastEvents) (message : List ℕ) (old new : Reading (List ℕ) FrameFault) → old.items ≡ message ∷ new.items → old.fault ≡ new.fault
    → WantsFrom source history (response_of message).items → WantsFrom source history (events_in_messages old.items old.fault).items
wants_here source history message old new i f w =
    rw (split_message message old new i f) (behind (response_of message).items (response_of message).fault (events_in_messages new.items new.fault) w)
  where
    behind : (items : List EventValue) (fault : Option EventFault) (others : Reading EventValue FeedFault) → WantsFrom source history items → WantsFrom source history (events_then items fault others).items
    behind items None others w = wants_front source history items others.items w
    behind items (Some fault) others w = w
