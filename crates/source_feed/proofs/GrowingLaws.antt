-- What has come of a feed, message by message; and bytes behind which no transaction is open.
use Rattle.std.proofs.Common.{◌≡◌, ℕ, ◌+◌, ◌-◌, ◌<◌, ◌||◌, Bool, true, false, cond, List, [], ◌∷◌, ◌++◌, length, length-append, reverse, Option, None, Some, Result, Ok, Err, append_assoc, refl, sym, ap, ◌∙◌, arith}
use Rattle.std.proofs.lemmas.List.{append-nil, reverse-append}
use Rattle.std.specs.List.{list_any}
use Rattle.std.specs.Option.{option_map, option_or}
use mathlib.Core.List.{reverse-cons}
use Rattle.list_laws.specs.Outcome.{◌>>=◌, unless}
use Rattle.proto_wire.specs.declared.fault.FrameFault.{FrameFault}
use Rattle.proto_wire.specs.declared.fault.WireFault.{WireFault}
use Rattle.proto_wire.specs.declared.fault.WireFault.TheVariants.{Truncated}
use Rattle.proto_wire.specs.Varint.{varint_at, varint_within}
use Rattle.proto_wire.specs.Field.{sized_at}
use Rattle.proto_wire.specs.Reading.{Reading}
use Rattle.proto_wire.specs.Frame.{IsFrame, NoFrame, located, frame_at, frames_of}
use Rattle.proto_wire.proofs.ReadingLaws.{reading-fault, only_reading}
use Rattle.proto_wire.proofs.FieldLaws.{frame_reader}
use Rattle.vevent.specs.EventValue.{EventValue, Gtid, Begin, Commit, Rollback, Row, Field, Vgtid, Ignored}
use Rattle.vevent.specs.Response.{response_of}
use Rattle.vevent.specs.declared.fault.EventFault.{EventFault}
use Rattle.source_feed.specs.declared.fault.FeedFault.{FeedFault}
use Rattle.source_feed.specs.declared.fault.FeedFault.TheVariants.{Frame}
use Rattle.source_feed.specs.SourceValue.{SourceValue}
use Rattle.source_feed.specs.EventList.{fault_of_frame, end_of_message, events_then, events_in_messages, events_of_feed}
use Rattle.source_feed.specs.PastEvents.{PastEvents, is_open}
use Rattle.source_feed.specs.Groups.{fault_at}
use Rattle.source_feed.specs.Pieces.{AreWhole, is_no_length, broken_by}
use Rattle.source_feed.specs.TakesMemory.{WantsFrom}
use Rattle.source_feed.specs.Growing.{AreSettled, ended_by, events_so_far}
use Rattle.source_feed.specs.Private.EventByEvent.{past_behind}
use Rattle.source_feed.proofs.FrameLaws.{frames_none, moved, read_behind}
use Rattle.source_feed.proofs.EventByEventLaws.{past_behind-events_then}
use Rattle.source_feed.proofs.Messages.{any_behind, wants_next, wants_here}

abbrev pub Events : Type 0
Events = Reading EventValue FeedFault

abbrev pub Messages : Type 0
Messages = Reading (List ℕ) FrameFault

-- ---- the message at the front

frame_ok : (total : ℕ) (bytes : List ℕ) (x : List ℕ × List ℕ) → sized_at bytes ≡ Ok x → frame_at total bytes ≡ Ok x
unfolding frame_at
frame_ok total bytes x e = ap (located (total - length bytes)) e

frame_err : (total : ℕ) (bytes : List ℕ) (cause : WireFault) → sized_at bytes ≡ Err cause → frame_at total bytes ≡ Err (record { place = total - length bytes; cause = cause })
unfolding frame_at
frame_err total bytes cause e = ap (located (total - length bytes)) e

pub record Front (rest message behind : List ℕ) : Type 0 where
  pub bytes : List ℕ
  pub parts : rest ≡ bytes ++ behind
  pub reads : frames_of bytes ≡ record { items = message ∷ []; fault = None }
  pub room : length message + length behind < length rest

pub front_of : (rest message behind : List ℕ) → sized_at rest ≡ Ok (message, behind) → Front rest message behind
front_of rest message behind e =
    let found = (frame_reader (length rest)).found rest (message, behind) (frame_ok (length rest) rest (message, behind) e) in
    let less : length behind < length rest = (frame_reader (length rest)).takes.shorter rest (message, behind) (frame_ok (length rest) rest (message, behind) e) in
    let front : List ℕ = found.0 in
    record {
      bytes = front;
      parts = found.1;
      reads = only_reading IsFrame (NoFrame (length front)) (frame_at (length front)) (frame_reader (length front)) front (message ∷ []) None (front, [], sym (append-nil front), found.2, refl);
      room = in_front front found.1 found.2;
    }
  where
    nonempty : (size : List ℕ) (n : ℕ) → (front : List ℕ) (last : ℕ) → size ≡ front ++ last ∷ [] → 0 < length size
    nonempty size n front last h = omega (arith, ap length h, length-append front (last ∷ []))

    in_front : (front : List ℕ) → rest ≡ front ++ behind → IsFrame front message → length message + length behind < length rest
    in_front front parts frame =
        let some : 0 < length frame.0 = nonempty frame.0 (length message) frame.1.0 frame.1.1 frame.1.2 in
        omega (arith, some, ap length parts, length-append front behind, ap length frame.2, length-append frame.0 message)

-- where no message stands, the bytes that have come end; a length that is no varint is a fault
no_size : (cause : WireFault) → sized_at [] ≡ Err cause → cause ≡ Truncated
unfolding sized_at varint_at varint_within
no_size cause e = cc

pub no_message : (rest : List ℕ) (cause : WireFault) → sized_at rest ≡ Err cause
    → ((frames_of rest).items ≡ []) × (broken_by (frames_of rest).fault ≡ cond (is_no_length cause) (Some Frame) None)
no_message [] cause e = (ap (λ (r : Messages). r.items) frames_none, ap (λ (r : Messages). broken_by r.fault) frames_none ∙ ap (λ (c : WireFault). cond (is_no_length c) (Some Frame) None) (sym (no_size cause e)))
no_message (b ∷ bytes) cause e =
    let reads : frames_of (b ∷ bytes) ≡ record { items = []; fault = Some (record { place = length (b ∷ bytes) - length (b ∷ bytes); cause = cause }) } =
    reading-fault (frame_at (length (b ∷ bytes))) (b ∷ bytes) (record { place = length (b ∷ bytes) - length (b ∷ bytes); cause = cause }) (λ h. cc) (frame_err (length (b ∷ bytes)) (b ∷ bytes) cause e) in
    (ap (λ (r : Messages). r.items) reads, ap (λ (r : Messages). broken_by r.fault) reads)

-- ---- the events that have come

-- the end of the messages says no more than the fault behind their events
pub ended : (messages : List (List ℕ)) (end : Option FrameFault) → events_in_messages messages end ≡ ended_by (fault_of_frame end) (events_in_messages messages None)
ended [] None = refl
ended [] (Some fault) = refl
ended (m ∷ messages) end = by (response_of m).fault (ended messages end)
  where
    by : (fault : Option EventFault) → events_in_messages messages end ≡ ended_by (fault_of_frame end) (events_in_messages messages None)
        → events_then (response_of m).items fault (events_in_messages messages end) ≡ ended_by (fault_of_frame end) (events_then (response_of m).items fault (events_in_messages messages None))
    by None e = ap (events_then (response_of m).items None) e
    by (Some fault) e = refl

then_ended : (end : Option FeedFault) (items : List EventValue) (fault : Option EventFault) (others : Events) → ended_by end (events_then items fault others) ≡ events_then items fault (ended_by end others)
then_ended end items None others = refl
then_ended end items (Some fault) others = refl

pub same_cause : (n : ℕ) (o : Option FrameFault) → broken_by (option_map (moved n) o) ≡ broken_by o
same_cause n None = refl
same_cause n (Some f) = refl

frames_next : (rest message behind : List ℕ) (f : Front rest message behind)
    → frames_of rest ≡ record { items = message ∷ (frames_of behind).items; fault = option_map (moved (length f.bytes)) (frames_of behind).fault }
frames_next rest message behind f =
    ap frames_of f.parts ∙ read_behind f.bytes behind (ap (λ (r : Messages). r.fault) f.reads)
    ∙ ap (λ (r : Messages). record { items = r.items ++ (frames_of behind).items; fault = option_map (moved (length f.bytes)) (frames_of behind).fault }) f.reads

items_next : (rest message behind : List ℕ) → Front rest message behind → (frames_of rest).items ≡ message ∷ (frames_of behind).items
items_next rest message behind f = ap (λ (r : Messages). r.items) (frames_next rest message behind f)

pub so_far-next : (rest message behind : List ℕ) → Front rest message behind
    → events_so_far rest ≡ events_then (response_of message).items (response_of message).fault (events_so_far behind)
so_far-next rest message behind f =
    ap (λ (r : Messages). ended_by (broken_by r.fault) (events_in_messages r.items None)) (frames_next rest message behind f)
    ∙ ap (λ (end : Option FeedFault). ended_by end (events_in_messages (message ∷ (frames_of behind).items) None)) (same_cause (length f.bytes) (frames_of behind).fault)
    ∙ then_ended (broken_by (frames_of behind).fault) (response_of message).items (response_of message).fault (events_in_messages (frames_of behind).items None)

pub past-next : (source : SourceValue) (history : PastEvents) (rest message behind : List ℕ) → Front rest message behind
    → past_behind source history (events_so_far rest).items (events_so_far rest).fault
    ≡ (past_behind source history (response_of message).items (end_of_message (response_of message).fault) >>= λ h. past_behind source h (events_so_far behind).items (events_so_far behind).fault)
past-next source history rest message behind f =
    ap (λ (all : Events). past_behind source history all.items all.fault) (so_far-next rest message behind f)
    ∙ past_behind-events_then source history (response_of message).items (response_of message).fault (events_so_far behind)

pub took_next : (source : SourceValue) (whole : Result PastEvents FeedFault) (history next : PastEvents) (rest message behind : List ℕ) → Front rest message behind
    → whole ≡ past_behind source history (events_so_far rest).items (events_so_far rest).fault
    → past_behind source history (response_of message).items (end_of_message (response_of message).fault) ≡ Ok next
    → whole ≡ past_behind source next (events_so_far behind).items (events_so_far behind).fault
took_next source whole history next rest message behind f w ok =
    w ∙ past-next source history rest message behind f ∙ ap (λ first. first >>= λ h. past_behind source h (events_so_far behind).items (events_so_far behind).fault) ok

pub refused_next : (source : SourceValue) (whole : Result PastEvents FeedFault) (history : PastEvents) (rest message behind : List ℕ) (fault : FeedFault) → Front rest message behind
    → whole ≡ past_behind source history (events_so_far rest).items (events_so_far rest).fault
    → past_behind source history (response_of message).items (end_of_message (response_of message).fault) ≡ Err fault
    → whole ≡ Err fault
refused_next source whole history rest message behind fault f w err =
    w ∙ past-next source history rest message behind f ∙ ap (λ first. first >>= λ h. past_behind source h (events_so_far behind).items (events_so_far behind).fault) err

-- the messages that are still to come, without what ends them
abbrev to_come : List ℕ → Messages
to_come bytes = record { items = (frames_of bytes).items; fault = None }

pub any_next : (P : EventValue → Bool) (source : SourceValue) (history next : PastEvents) (rest message behind : List ℕ) → Front rest message behind
    → past_behind source history (response_of message).items (end_of_message (response_of message).fault) ≡ Ok next
    → list_any P (events_so_far rest).items ≡ (list_any P (response_of message).items || list_any P (events_so_far behind).items)
any_next P source history next rest message behind f ok = any_behind P source history next message (to_come rest) (to_come behind) (items_next rest message behind f) refl ok

pub wants_so_far : (source : SourceValue) (history next : PastEvents) (rest message behind : List ℕ) → Front rest message behind
    → past_behind source history (response_of message).items (end_of_message (response_of message).fault) ≡ Ok next
    → WantsFrom source next (events_so_far behind).items → WantsFrom source history (events_so_far rest).items
wants_so_far source history next rest message behind f ok w = wants_next source history next message (to_come rest) (to_come behind) (items_next rest message behind f) refl ok w

pub wants_in_message : (source : SourceValue) (history : PastEvents) (rest message behind : List ℕ) → Front rest message behind
    → WantsFrom source history (response_of message).items → WantsFrom source history (events_so_far rest).items
wants_in_message source history rest message behind f w = wants_here source history message (to_come rest) (to_come behind) (items_next rest message behind f) refl w

-- at the end
pub past_at_end : (source : SourceValue) (history : PastEvents) (rest : List ℕ) (cause : WireFault) → sized_at rest ≡ Err cause
    → past_behind source history (events_so_far rest).items (events_so_far rest).fault ≡ (unless (cond (is_no_length cause) (Some Frame) None) >>= λ _. Ok history)
past_at_end source history rest cause e =
    let none = no_message rest cause e in
    ap (λ (messages : List (List ℕ)). past_behind source history (ended_by (broken_by (frames_of rest).fault) (events_in_messages messages None)).items (ended_by (broken_by (frames_of rest).fault) (events_in_messages messages None)).fault) none.0
    ∙ ap (λ (end : Option FeedFault). past_behind source history [] end) none.1

pub nothing_at_end : (rest : List ℕ) (cause : WireFault) → sized_at rest ≡ Err cause → (events_so_far rest).items ≡ []
nothing_at_end rest cause e = ap (λ (messages : List (List ℕ)). (events_in_messages messages None).items) (no_message rest cause e).0

-- ---- the past behind some events

abbrev past : PastEvents → Result PastEvents FeedFault
past history = Ok history

same_past : (x y : PastEvents) → past x ≡ past y → x ≡ y
same_past x y e = cc

pub past_is : (source : SourceValue) (events : List EventValue) (end : Option FeedFault) (history next : PastEvents) → past_behind source history events end ≡ Ok next
    → (end ≡ None) × (next ≡ reverse events ++ history)
past_is source [] None history next e = (refl, sym (same_past history next e))
past_is source [] (Some fault) history next e = cc
past_is source (event ∷ events) end history next e = by (fault_at source history event) (past_is source events end (event ∷ history) next) e
  where
    by : (fault : Option FeedFault) → (past_behind source (event ∷ history) events end ≡ Ok next → (end ≡ None) × (next ≡ reverse events ++ event ∷ history))
        → (unless fault >>= λ _. past_behind source (event ∷ history) events end) ≡ Ok next → (end ≡ None) × (next ≡ reverse (event ∷ events) ++ history)
    by None more e = ((more e).0, (more e).1 ∙ sym (ap (λ (front : List EventValue). front ++ history) (reverse-cons event events) ∙ append_assoc (reverse events) (event ∷ []) history))
    by (Some fault) more e = cc

pub no_fault : (fault : Option EventFault) → end_of_message fault ≡ None → fault ≡ None
no_fault None e = refl
no_fault (Some fault) e = cc

-- ---- whole messages and others behind them

option_or-none : (o : Option FeedFault) → option_or o None ≡ o
option_or-none None = refl
option_or-none (Some fault) = refl

then_read : (items : List EventValue) (fault : Option EventFault) (others : Events) → (events_then items fault others).fault ≡ None → (fault ≡ None) × (others.fault ≡ None)
then_read items None others e = (refl, e)
then_read items (Some fault) others e = cc

pub messages_then : (messages others : List (List ℕ)) (end : Option FrameFault) → (events_in_messages messages None).fault ≡ None
    → events_in_messages (messages ++ others) end ≡ record { items = (events_in_messages messages None).items ++ (events_in_messages others end).items; fault = (events_in_messages others end).fault }
messages_then [] others end e = refl
messages_then (m ∷ messages) others end e =
    let both = then_read (response_of m).items (response_of m).fault (events_in_messages messages None) e in
    by (response_of m).fault both.0 (messages_then messages others end both.1)
  where
    by : (fault : Option EventFault) → fault ≡ None
        → events_in_messages (messages ++ others) end ≡ record { items = (events_in_messages messages None).items ++ (events_in_messages others end).items; fault = (events_in_messages others end).fault }
        → events_then (response_of m).items fault (events_in_messages (messages ++ others) end)
        ≡ record { items = (events_then (response_of m).items fault (events_in_messages messages None)).items ++ (events_in_messages others end).items; fault = (events_in_messages others end).fault }
    by None none e =
        ap (events_then (response_of m).items None) e
        ∙ ap (λ (items : List EventValue). record { items = items; fault = (events_in_messages others end).fault }) (sym (append_assoc (response_of m).items (events_in_messages messages None).items (events_in_messages others end).items))
    by (Some fault) none e = cc

-- the events of whole messages, as of messages alone
pub whole_events : (bytes : List ℕ) → AreWhole bytes → events_of_feed bytes ≡ events_in_messages (frames_of bytes).items None
whole_events bytes whole = ap (events_in_messages (frames_of bytes).items) whole

pub so_far-whole : (bytes : List ℕ) → AreWhole bytes → events_so_far bytes ≡ events_of_feed bytes
so_far-whole bytes whole =
    ap (λ (end : Option FrameFault). ended_by (broken_by end) (events_in_messages (frames_of bytes).items None)) whole
    ∙ ap (λ (fault : Option FeedFault). record { items = (events_in_messages (frames_of bytes).items None).items; fault = fault }) (option_or-none (events_in_messages (frames_of bytes).items None).fault)
    ∙ sym (whole_events bytes whole)

-- whole messages that can be read, and other bytes behind them
module _ (front rest : List ℕ) (whole : AreWhole front) (read : (events_of_feed front).fault ≡ None) where
  none : (events_in_messages (frames_of front).items None).fault ≡ None
  none = ap (λ (r : Events). r.fault) (sym (whole_events front whole)) ∙ read

  frames : frames_of (front ++ rest) ≡ record { items = (frames_of front).items ++ (frames_of rest).items; fault = option_map (moved (length front)) (frames_of rest).fault }
  frames = read_behind front rest whole

  same_end : (n : ℕ) (messages : List (List ℕ)) (end : Option FrameFault) → events_in_messages messages (option_map (moved n) end) ≡ events_in_messages messages end
  same_end n messages None = refl
  same_end n messages (Some fault) = ended messages (Some (moved n fault)) ∙ sym (ended messages (Some fault))

  pub events_behind_whole : events_of_feed (front ++ rest) ≡ record { items = (events_of_feed front).items ++ (events_of_feed rest).items; fault = (events_of_feed rest).fault }
  events_behind_whole =
      ap (λ (r : Messages). events_in_messages r.items r.fault) frames
      ∙ same_end (length front) ((frames_of front).items ++ (frames_of rest).items) (frames_of rest).fault
      ∙ messages_then (frames_of front).items (frames_of rest).items (frames_of rest).fault none
      ∙ ap (λ (r : Events). record { items = r.items ++ (events_of_feed rest).items; fault = (events_of_feed rest).fault }) (sym (whole_events front whole))

  pub so_far_behind_whole : events_so_far (front ++ rest) ≡ record { items = (events_of_feed front).items ++ (events_so_far rest).items; fault = (events_so_far rest).fault }
  so_far_behind_whole =
      ap (λ (r : Messages). ended_by (broken_by r.fault) (events_in_messages r.items None)) frames
      ∙ ap (λ (end : Option FeedFault). ended_by end (events_in_messages ((frames_of front).items ++ (frames_of rest).items) None)) (same_cause (length front) (frames_of rest).fault)
      ∙ ap (ended_by (broken_by (frames_of rest).fault)) (messages_then (frames_of front).items (frames_of rest).items None none)
      ∙ ap (λ (r : Events). record { items = r.items ++ (events_so_far rest).items; fault = (events_so_far rest).fault }) (sym (whole_events front whole))

  pub whole_behind_whole : AreWhole rest → AreWhole (front ++ rest)
  whole_behind_whole also = ap (λ (r : Messages). r.fault) frames ∙ ap (option_map (moved (length front))) also

  pub read_behind_read : (events_of_feed rest).fault ≡ None → (events_of_feed (front ++ rest)).fault ≡ None
  read_behind_read also = ap (λ (r : Events). r.fault) events_behind_whole ∙ also

-- ---- no transaction is open

-- what stands before doesn't count where no transaction is open behind it
pub open_behind : (events history : PastEvents) → is_open history ≡ false → is_open (events ++ history) ≡ is_open events
open_behind [] history e = e
open_behind (Begin ∷ events) history e = refl
open_behind (Commit ∷ events) history e = refl
open_behind (Rollback ∷ events) history e = refl
open_behind (Row name changes ∷ events) history e = open_behind events history e
open_behind (Field name columns ∷ events) history e = open_behind events history e
open_behind (Gtid text ∷ events) history e = open_behind events history e
open_behind (Vgtid entries ∷ events) history e = open_behind events history e
open_behind (Ignored kind ∷ events) history e = open_behind events history e

pub settled_none : AreSettled []
settled_none =
    let none : events_of_feed [] ≡ record { items = []; fault = None } = ap (λ (r : Messages). events_in_messages r.items r.fault) frames_none in
    record {
      whole = ap (λ (r : Messages). r.fault) frames_none;
      read = ap (λ (r : Events). r.fault) none;
      outside = ap (λ (r : Events). is_open (reverse r.items)) none;
    }

pub reverse_behind : (one other : List EventValue) (history : PastEvents) → reverse (one ++ other) ++ history ≡ reverse other ++ (reverse one ++ history)
reverse_behind one other history = ap (λ (front : List EventValue). front ++ history) (reverse-append one other) ∙ append_assoc (reverse other) (reverse one) history

pub settled_behind : (front rest : List ℕ) → AreSettled front → AreSettled rest → AreSettled (front ++ rest)
settled_behind front rest a b = record {
  whole = whole_behind_whole front rest a.whole a.read b.whole;
  read = read_behind_read front rest a.whole a.read b.read;
  outside = ap (λ (r : Events). is_open (reverse r.items)) (events_behind_whole front rest a.whole a.read)
      ∙ ap is_open (reverse-append (events_of_feed front).items (events_of_feed rest).items)
      ∙ open_behind (reverse (events_of_feed rest).items) (reverse (events_of_feed front).items) a.outside
      ∙ b.outside;
}

-- ---- the end of a walk

pub ends_well : (source : SourceValue) (history : PastEvents) (rest : List ℕ) (cause : WireFault) → sized_at rest ≡ Err cause → is_no_length cause ≡ false
    → past_behind source history (events_so_far rest).items (events_so_far rest).fault ≡ Ok history
ends_well source history rest cause e short = past_at_end source history rest cause e ∙ ap (λ (b : Bool). unless (cond b (Some Frame) None) >>= λ _. Ok history) short

pub ends_broken : (source : SourceValue) (history : PastEvents) (rest : List ℕ) (cause : WireFault) → sized_at rest ≡ Err cause → is_no_length cause ≡ true
    → past_behind source history (events_so_far rest).items (events_so_far rest).fault ≡ Err Frame
ends_broken source history rest cause e long = past_at_end source history rest cause e ∙ ap (λ (b : Bool). unless (cond b (Some Frame) None) >>= λ _. Ok history) long

or_nothing : (b : Bool) → (b || false) ≡ b
or_nothing true = refl
or_nothing false = refl

pub seen_at_end : (P : EventValue → Bool) (b all : Bool) (rest : List ℕ) (cause : WireFault) → sized_at rest ≡ Err cause → (b || list_any P (events_so_far rest).items) ≡ all → b ≡ all
seen_at_end P b all rest cause e seen = sym (or_nothing b) ∙ ap (λ (items : List EventValue). b || list_any P items) (sym (nothing_at_end rest cause e)) ∙ seen
