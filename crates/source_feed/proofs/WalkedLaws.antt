-- A walk over a piece, message by message.
use Rattle.std.proofs.Common.{◌≡◌, ℕ, true, false, List, [], ◌∷◌, ◌++◌, reverse, Option, None, Some, append_assoc, refl, sym, ap, subst, ◌∙◌}
use Rattle.std.proofs.lemmas.List.{append-nil}
use Rattle.proto_wire.specs.Frame.{frames_of}
use Rattle.vevent.specs.EventValue.{EventValue}
use Rattle.vevent.specs.Response.{response_of}
use Rattle.vevent.specs.declared.fault.EventFault.{EventFault}
use Rattle.source_feed.specs.EventList.{events_then, events_in_messages, events_of_feed}
use Rattle.source_feed.specs.PastEvents.{PastEvents, is_open}
use Rattle.source_feed.specs.Pieces.{AreWhole}
use Rattle.source_feed.specs.Growing.{StaysOpen, past_with, IsSettledFront}
use Rattle.source_feed.specs.Private.Walked.{Walked}
use Rattle.source_feed.proofs.FrameLaws.{frames_none, read_behind}
use Rattle.source_feed.proofs.GrowingLaws.{Events, Messages, Front, whole_events, events_behind_whole, whole_behind_whole, read_behind_read, open_behind, settled_none, settled_behind, reverse_behind}

-- ---- messages behind which a transaction is open

-- the past behind some messages
past_all : PastEvents → List (List ℕ) → PastEvents
past_all earlier [] = earlier
past_all earlier (message ∷ messages) = past_all (past_with earlier message) messages

stays_more : (earlier : PastEvents) (messages : List (List ℕ)) (message : List ℕ) → StaysOpen earlier messages → is_open (past_with (past_all earlier messages) message) ≡ true
    → StaysOpen earlier (messages ++ message ∷ [])
unfolding past_all
stays_more earlier [] message stays more = (more, tt)
stays_more earlier (m ∷ messages) message stays more = (stays.0, stays_more (past_with earlier m) messages message stays.1 more)

past_all-is : (earlier : PastEvents) (messages : List (List ℕ)) → (events_in_messages messages None).fault ≡ None → past_all earlier messages ≡ reverse (events_in_messages messages None).items ++ earlier
unfolding past_all
past_all-is earlier [] e = refl
past_all-is earlier (m ∷ messages) e = by (response_of m).fault (past_all-is (past_with earlier m) messages) e
  where
    by : (fault : Option EventFault)
        → ((events_in_messages messages None).fault ≡ None → past_all (past_with earlier m) messages ≡ reverse (events_in_messages messages None).items ++ past_with earlier m)
        → (events_then (response_of m).items fault (events_in_messages messages None)).fault ≡ None
        → past_all (past_with earlier m) messages ≡ reverse (events_then (response_of m).items fault (events_in_messages messages None)).items ++ earlier
    by None more e = more e ∙ sym (reverse_behind (response_of m).items (events_in_messages messages None).items earlier)
    by (Some fault) more e = cc

-- ---- the walk

pub walked_none : (piece : List ℕ) (earlier : PastEvents) → Walked piece piece piece earlier earlier
walked_none piece earlier =
    let none : events_of_feed [] ≡ record { items = []; fault = None } = ap (λ (r : Messages). events_in_messages r.items r.fault) frames_none in
    record {
      front = [];
      between = [];
      parts = refl;
      settled = settled_none;
      open_parts = refl;
      whole = settled_none.whole;
      read = settled_none.read;
      unsettled = subst (λ (r : Messages). StaysOpen [] r.items) (sym frames_none) tt;
      past = ap (λ (r : Events). reverse r.items ++ (reverse r.items ++ earlier)) (sym none);
    }

-- one message more
module _ (piece due rest message behind : List ℕ) (earlier history next : PastEvents) (w : Walked piece due rest earlier history) (f : Front rest message behind)
    (sound : (response_of message).fault ≡ None) (is : next ≡ reverse (response_of message).items ++ history) (outside : is_open earlier ≡ false) where
  one_whole : AreWhole f.bytes
  one_whole = ap (λ (r : Messages). r.fault) f.reads

  then_none : (fault : Option EventFault) → fault ≡ None → events_then (response_of message).items fault (record { items = []; fault = None }) ≡ record { items = (response_of message).items; fault = None }
  then_none None e = ap (λ (items : List EventValue). record { items = items; fault = None }) (append-nil (response_of message).items)
  then_none (Some fault) e = cc

  one_events : events_of_feed f.bytes ≡ record { items = (response_of message).items; fault = None }
  one_events = ap (λ (r : Messages). events_in_messages r.items r.fault) f.reads ∙ then_none (response_of message).fault sound

  one_read : (events_of_feed f.bytes).fault ≡ None
  one_read = ap (λ (r : Events). r.fault) one_events

  abbrev more : List ℕ
  more = w.between ++ f.bytes

  more_whole : AreWhole more
  more_whole = whole_behind_whole w.between f.bytes w.whole w.read one_whole

  more_read : (events_of_feed more).fault ≡ None
  more_read = read_behind_read w.between f.bytes w.whole w.read one_read

  more_items : (events_of_feed more).items ≡ (events_of_feed w.between).items ++ (response_of message).items
  more_items = ap (λ (r : Events). r.items) (events_behind_whole w.between f.bytes w.whole w.read) ∙ ap (λ (r : Events). (events_of_feed w.between).items ++ r.items) one_events

  more_past : next ≡ reverse (events_of_feed more).items ++ (reverse (events_of_feed w.front).items ++ earlier)
  more_past =
      is ∙ ap (λ (h : PastEvents). reverse (response_of message).items ++ h) w.past
      ∙ sym (reverse_behind (events_of_feed w.between).items (response_of message).items (reverse (events_of_feed w.front).items ++ earlier))
      ∙ ap (λ (items : List EventValue). reverse items ++ (reverse (events_of_feed w.front).items ++ earlier)) (sym more_items)

  more_parts : due ≡ more ++ behind
  more_parts = w.open_parts ∙ ap (λ (bytes : List ℕ). w.between ++ bytes) f.parts ∙ sym (append_assoc w.between f.bytes behind)

  before_outside : is_open (reverse (events_of_feed w.front).items ++ earlier) ≡ false
  before_outside = open_behind (reverse (events_of_feed w.front).items) earlier outside ∙ w.settled.outside

  -- whether a transaction is open is said by what stands behind the settled bytes
  more_open : is_open next ≡ is_open (reverse (events_of_feed more).items)
  more_open = ap is_open more_past ∙ open_behind (reverse (events_of_feed more).items) (reverse (events_of_feed w.front).items ++ earlier) before_outside

  pub walked_open : is_open next ≡ true → Walked piece due behind earlier next
  walked_open opened = record {
    front = w.front;
    between = more;
    parts = w.parts;
    settled = w.settled;
    open_parts = more_parts;
    whole = more_whole;
    read = more_read;
    unsettled = subst (StaysOpen []) messages (stays_more [] (frames_of w.between).items message w.unsettled here);
    past = more_past;
  }
    where
      messages : (frames_of w.between).items ++ message ∷ [] ≡ (frames_of more).items
      messages = sym (ap (λ (r : Messages). r.items) (read_behind w.between f.bytes w.whole) ∙ ap (λ (r : Messages). (frames_of w.between).items ++ r.items) f.reads)

      mine : (events_in_messages (frames_of w.between).items None).fault ≡ None
      mine = ap (λ (r : Events). r.fault) (sym (whole_events w.between w.whole)) ∙ w.read

      here : is_open (past_with (past_all [] (frames_of w.between).items) message) ≡ true
      here =
          ap (λ (h : PastEvents). is_open (past_with h message)) (past_all-is [] (frames_of w.between).items mine)
          ∙ ap (λ (r : Events). is_open (reverse (response_of message).items ++ (reverse r.items ++ []))) (sym (whole_events w.between w.whole))
          ∙ ap is_open (sym (reverse_behind (events_of_feed w.between).items (response_of message).items []))
          ∙ ap (λ (items : List EventValue). is_open (reverse items ++ [])) (sym more_items)
          ∙ ap is_open (append-nil (reverse (events_of_feed more).items))
          ∙ sym more_open ∙ opened

  pub walked_closed : is_open next ≡ false → Walked piece behind behind earlier next
  walked_closed closed = record {
    front = w.front ++ more;
    between = [];
    parts = w.parts ∙ ap (λ (bytes : List ℕ). w.front ++ bytes) more_parts ∙ sym (append_assoc w.front more behind);
    settled = settled_behind w.front more w.settled (record { whole = more_whole; read = more_read; outside = sym more_open ∙ closed });
    open_parts = refl;
    whole = settled_none.whole;
    read = settled_none.read;
    unsettled = subst (λ (r : Messages). StaysOpen [] r.items) (sym frames_none) tt;
    past = more_past
        ∙ sym (reverse_behind (events_of_feed w.front).items (events_of_feed more).items earlier)
        ∙ ap (λ (r : Events). reverse r.items ++ earlier) (sym (events_behind_whole w.front more w.settled.whole w.settled.read))
        ∙ ap (λ (r : Events). reverse r.items ++ (reverse (events_of_feed (w.front ++ more)).items ++ earlier)) (sym (ap (λ (r : Messages). events_in_messages r.items r.fault) frames_none));
  }

-- and its end
pub walked_all : (piece due rest : List ℕ) (earlier history : PastEvents) (w : Walked piece due rest earlier history) → (frames_of rest).items ≡ [] → IsSettledFront piece w.front due
walked_all piece due rest earlier history w none = record {
  parts = w.parts;
  settled = w.settled;
  unsettled = subst (StaysOpen []) (sym messages) w.unsettled;
}
  where
    messages : (frames_of due).items ≡ (frames_of w.between).items
    messages =
        ap (λ (bytes : List ℕ). (frames_of bytes).items) w.open_parts
        ∙ ap (λ (r : Messages). r.items) (read_behind w.between rest w.whole)
        ∙ ap (λ (ms : List (List ℕ)). (frames_of w.between).items ++ ms) none
        ∙ append-nil (frames_of w.between).items
