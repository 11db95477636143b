-- Messages that are written are read as their events, and events without a fault are a feed with their groups.
use Rattle.std.proofs.Common.{◌≡◌, ℕ, ◌+◌, ◌^◌, ◌<◌, List, [], ◌∷◌, ◌++◌, length, map, reverse, false, nat_lt, None, Result, Ok, Err, refl, sym, ap, ◌∙◌, arith}
use Rattle.std.proofs.lemmas.Bool.{cond-true, lt-ltb}
use Rattle.std.proofs.lemmas.List.{length-append, map-append}
use Rattle.std.specs.List.{AllByRecursion, flat_map}
use Rattle.proto_wire.specs.Varint.{shortest}
use Rattle.vevent.specs.EventValue.{EventValue}
use Rattle.vevent.specs.Event.{event_at}
use Rattle.vevent.specs.declared.fault.EventFault.{EventFault}
use Rattle.vevent.specs.WrittenEvent.{written_event, IsSoundEvent, EventsAreReadAgain}
use Rattle.vevent.proofs.WrittenParts.{messages_short}
use Rattle.source_feed.specs.declared.fault.FeedFault.{FeedFault}
use Rattle.source_feed.specs.declared.fault.FeedFault.TheVariants.{FeedTooLong}
use Rattle.source_feed.specs.EventList.{events_of_feed}
use Rattle.source_feed.specs.GroupValue.{GroupValue}
use Rattle.source_feed.specs.SourceValue.{SourceValue}
use Rattle.source_feed.specs.PastEvents.{is_open}
use Rattle.source_feed.specs.Groups.{groups_of, first_fault, groups_in, groups}
use Rattle.event_laws.specs.WrittenMessages.{written_response, framed, written_messages}
use Rattle.event_laws.specs.Laws.{HaveEvents, MessagesAreReadAgain}
use Rattle.event_laws.proofs.RunLaws.{Ended, ends}
use Rattle.log_feed.specs.Group.{in_bytes}
use Rattle.log_laws.specs.Transcript.{written}
use Rattle.log_laws.specs.Laws.{events_in}

abbrev Read : Type 0
Read = Result EventValue EventFault

-- ---- each event

parts_again : EventsAreReadAgain → (events : List EventValue) → AllByRecursion IsSoundEvent events → AllByRecursion (λ m. length m < 2 ^ 64) (in_bytes events) → map event_at (in_bytes events) ≡ map Ok events
parts_again again [] sound short = refl
parts_again again (e ∷ events) sound short =
    ap (λ (r : Read). r ∷ map event_at (in_bytes events)) (again e sound.0 short.0) ∙ ap (λ (rs : List Read). Ok e ∷ rs) (parts_again again events sound.1 short.1)

all_front : (xs ys : List EventValue) → AllByRecursion IsSoundEvent (xs ++ ys) → AllByRecursion IsSoundEvent xs × AllByRecursion IsSoundEvent ys
all_front [] ys all = (tt, all)
all_front (x ∷ xs) ys all = let rest = all_front xs ys all.1 in ((all.0, rest.0), rest.1)

-- a message is no longer than all of them
shorter : (message : List (List ℕ)) (messages : List (List (List ℕ))) → length (written_messages (message ∷ messages)) < 2 ^ 64 → (length (written_response message) < 2 ^ 64) × (length (written_messages messages) < 2 ^ 64)
shorter message messages h =
    let bytes : List ℕ = written_response message in
    let size : List ℕ = shortest (length bytes) in
    let whole : length (written_messages (message ∷ messages)) ≡ length (framed bytes) + length (written_messages messages) = length-append (framed bytes) (written_messages messages) in
    let front : length (framed bytes) ≡ length size + length bytes = length-append size bytes in
    (omega (arith, h, whole, front), omega (arith, h, whole, front))

all_again : EventsAreReadAgain → (messages : List (List EventValue)) → length (written messages) < 2 ^ 64 → AllByRecursion IsSoundEvent (events_in messages)
    → map event_at (flat_map (λ parts. parts) (map in_bytes messages)) ≡ map Ok (events_in messages)
all_again again [] short sound = refl
all_again again (events ∷ messages) short sound =
    let less = shorter (in_bytes events) (map in_bytes messages) short in
    let parts = all_front events (events_in messages) sound in
    let others : List (List ℕ) = flat_map (λ parts. parts) (map in_bytes messages) in
    map-append event_at (in_bytes events) others
    ∙ ap (λ (rs : List Read). rs ++ map event_at others) (parts_again again events parts.0 (messages_short 1 (in_bytes events) less.0))
    ∙ ap (λ (rs : List Read). map Ok events ++ rs) (all_again again messages less.1 parts.1)
    ∙ sym (map-append Ok events (events_in messages))

pub messages_read : EventsAreReadAgain → MessagesAreReadAgain → (messages : List (List EventValue)) → AllByRecursion IsSoundEvent (events_in messages) → length (written messages) < 2 ^ 64 → HaveEvents (written messages) (events_in messages)
messages_read again read messages sound short = read (map in_bytes messages) (events_in messages) short (all_again again messages short sound)

-- ---- the feed

abbrev Groups : Type 0
Groups = Result (List GroupValue) FeedFault

abbrev too_long : Groups
too_long = Err FeedTooLong

pub feed_has : (bytes : List ℕ) (source : SourceValue) (events : List EventValue) → length bytes < 2 ^ 31 → HaveEvents bytes events → first_fault source (reverse events) ≡ None → is_open (reverse events) ≡ false
    → groups bytes source ≡ Ok (groups_of source (reverse events))
feed_has bytes source events short have faultless outside =
    cond-true (nat_lt (length bytes) (2 ^ 31)) (groups_in source (events_of_feed bytes)) too_long (lt-ltb _ _ short)
    ∙ ap (groups_in source) have.are
    ∙ ends source events (groups_of source (reverse events)) (record { faultless = faultless; outside = outside; are = refl })
