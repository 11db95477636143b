-- What is seen of a feed, one event and one message further; and what of a list, one element further.
use Rattle.std.proofs.Common.{◌≡◌, ℕ, suc, ◌+◌, ◌<◌, ◌≤◌, true, false, List, [], ◌∷◌, ◌++◌, length, map, drop, get_or, Option, None, Some, Result, Ok, Err, IfSome, refl, sym, ap, ◌∙◌, arith}
use Rattle.std.proofs.lemmas.List.{at_drop_more, at_drop_all}
use Rattle.std.specs.Str.{bytes_eq}
use Rattle.list_laws.specs.Outcome.{◌>>=◌, Refuses, GivesUnless}
use Rattle.item_readers.specs.Reading.{Reading}
use Rattle.proto_wire.specs.declared.fault.FrameFault.{FrameFault}
use Rattle.vevent.specs.EventValue.{EventValue}
use Rattle.vevent.specs.Response.{response_of}
use Rattle.vevent.specs.declared.fault.EventFault.{EventFault}
use Rattle.source_feed.specs.declared.fault.FeedFault.{FeedFault}
use Rattle.source_feed.specs.declared.fault.FeedFault.TheVariants.{Frame, Event}
use Rattle.source_feed.specs.EventList.{end_of_message, fault_of_frame, events_then, events_in_messages}
use Rattle.source_feed.specs.FaultNumber.{meant_of}
use Rattle.log_groups.specs.Transaction.{DoneValue}
use Rattle.log_feed.specs.declared.fault.ChangeFault.{ChangeFault}
use Rattle.log_feed.specs.declared.fault.ChangeError.{ChangeError}
use Rattle.log_feed.specs.declared.fault.ChangeError.TheVariants as change_error
use Rattle.log_feed.specs.Fault as change_fault
use Rattle.log_feed.specs.declared.table.Stage.{Stage}
use Rattle.log_feed.specs.Table.{TableValue, table_from}
use Rattle.log_laws.specs.Source.{SourceTables}
use Rattle.log_transcribe.specs.Said.{event_said, events_said, to_end, reading_said}
use Rattle.log_transcribe.specs.Behind.{change_had, changes_had}
use Rattle.log_transcribe.specs.Private.Sees.{message_said, messages_said, SeesEvent, SeesMessage}

-- ---- names

pub name-here : {T : Type 0} (view : T → TableValue) (tables : List T) (i : ℕ) (name : List ℕ) (all : Option (ℕ × TableValue)) (table : T) → i < length tables → table ≡ get_or tables i table → bytes_eq (view table).name name ≡ true
    → table_from i name (map view (drop i tables)) ≡ all → Some (i, view table) ≡ all
name-here view tables i name all table lt is same seen =
    let front = at_drop_more (λ ts. table_from i name (map view ts)) tables i table lt in
    let found : table_from i name (map view (table ∷ drop (i + 1) tables)) ≡ Some (i, view table) = rw same refl in
    sym found ∙ ap (λ t. table_from i name (map view (t ∷ drop (i + 1) tables))) is ∙ sym front ∙ seen

pub name-further : {T : Type 0} (view : T → TableValue) (tables : List T) (i : ℕ) (name : List ℕ) (all : Option (ℕ × TableValue)) (table : T) → i < length tables → table ≡ get_or tables i table → bytes_eq (view table).name name ≡ false
    → table_from i name (map view (drop i tables)) ≡ all → table_from (i + 1) name (map view (drop (i + 1) tables)) ≡ all
name-further view tables i name all table lt is other seen =
    let front = at_drop_more (λ ts. table_from i name (map view ts)) tables i table lt in
    let behind : table_from i name (map view (table ∷ drop (i + 1) tables)) ≡ table_from (i + 1) name (map view (drop (i + 1) tables)) = rw other refl in
    sym behind ∙ ap (λ t. table_from i name (map view (t ∷ drop (i + 1) tables))) is ∙ sym front ∙ seen

pub name-nowhere : {T : Type 0} (view : T → TableValue) (tables : List T) (i : ℕ) (name : List ℕ) (all : Option (ℕ × TableValue)) → length tables ≤ i → table_from i name (map view (drop i tables)) ≡ all → None ≡ all
name-nowhere view tables i name all le seen = sym (at_drop_all (λ ts. table_from i name (map view ts)) tables i le) ∙ seen

-- ---- changes that the feed has

had_further : (s : SourceTables) (had : List Stage) (d : DoneValue) (changes : List DoneValue) (all : Result (Unit {0}) ChangeFault) → change_had s had d ≡ Ok tt → changes_had s had (d ∷ changes) ≡ all → changes_had s had changes ≡ all
unfolding changes_had
had_further s had d changes all e seen = sym (rw e refl) ∙ seen

had_wrong : (s : SourceTables) (had : List Stage) (d : DoneValue) (changes : List DoneValue) (fault : ChangeFault) (all : Result (Unit {0}) ChangeFault) → change_had s had d ≡ Err fault → changes_had s had (d ∷ changes) ≡ all → all ≡ Err fault
unfolding changes_had
had_wrong s had d changes fault all e seen = sym seen ∙ rw e refl

had_end : (s : SourceTables) (had : List Stage) (all : Result (Unit {0}) ChangeFault) → changes_had s had [] ≡ all → all ≡ Ok tt
unfolding changes_had
had_end s had all seen = sym seen

pub had-on : {D : Type 0} (view : D → DoneValue) (s : SourceTables) (had : List Stage) (changes : List D) (i : ℕ) (all : Result (Unit {0}) ChangeFault) (d : D) → i < length changes → change_had s had (view (get_or changes i d)) ≡ Ok tt
    → changes_had s had (map view (drop i changes)) ≡ all → changes_had s had (map view (drop (i + 1) changes)) ≡ all
had-on view s had changes i all d lt e seen = had_further s had (view (get_or changes i d)) (map view (drop (i + 1) changes)) all e (sym (at_drop_more (λ ds. changes_had s had (map view ds)) changes i d lt) ∙ seen)

pub had-refused : {D : Type 0} (view : D → DoneValue) (s : SourceTables) (had : List Stage) (changes : List D) (i : ℕ) (all : Result (Unit {0}) ChangeFault) (d : D) (error : ChangeError) → i < length changes
    → Refuses change_fault.meant error (change_had s had (view (get_or changes i d))) → changes_had s had (map view (drop i changes)) ≡ all → Refuses change_fault.meant error all
had-refused view s had changes i all d change_error.Memory lt e seen = tt
had-refused view s had changes i all d (change_error.Fault fault) lt e seen = had_wrong s had (view (get_or changes i d)) (map view (drop (i + 1) changes)) fault all e (sym (at_drop_more (λ ds. changes_had s had (map view ds)) changes i d lt) ∙ seen)

pub had-done : {D : Type 0} (view : D → DoneValue) (s : SourceTables) (had : List Stage) (changes : List D) (i : ℕ) (all : Result (Unit {0}) ChangeFault) → length changes ≤ i → changes_had s had (map view (drop i changes)) ≡ all → all ≡ Ok tt
had-done view s had changes i all le seen = had_end s had all (sym (at_drop_all (λ ds. changes_had s had (map view ds)) changes i le) ∙ seen)

-- ---- the events of a message

module _ (s : SourceTables) where
  refused_or : (fault : FeedFault) (r : Result (List Stage) FeedFault) → ((f : FeedFault) → meant_of fault ≡ Some f → r ≡ Err f) → Refuses meant_of fault r
  refused_or fault r h = by (meant_of fault) refl
    where
      by : (o : Option FeedFault) → meant_of fault ≡ o → IfSome o (λ f. r ≡ Err f)
      by None e = tt
      by (Some f) e = h f e

  refused_as : (fault f : FeedFault) (r : Result (List Stage) FeedFault) → Refuses meant_of fault r → meant_of fault ≡ Some f → r ≡ Err f
  refused_as fault f r h e = let there : IfSome (Some f) (λ f. r ≡ Err f) = (let k = rw e at h in k) in there

  message_on : (old new : Reading EventValue EventFault) (event : EventValue) (stages : List Stage) → old.items ≡ event ∷ new.items → old.fault ≡ new.fault → message_said s old stages ≡ event_said s event stages >>= λ next. message_said s new next
  unfolding events_said
  message_on old new event stages items fault = rw (items, fault) (by (event_said s event stages))
    where
      by : (r : Result (List Stage) FeedFault) → (r >>= λ next. events_said s new.items next) >>= (λ next. to_end (end_of_message new.fault) next) ≡ r >>= λ next. events_said s new.items next >>= λ next. to_end (end_of_message new.fault) next
      by (Ok next) = refl
      by (Err f) = refl

  pub event-seen : {U : Type 0} (old new : Reading EventValue EventFault) (event : EventValue) (answer : Result U FeedFault) (stages next : List Stage) → old.items ≡ event ∷ new.items → old.fault ≡ new.fault
      → GivesUnless meant_of (λ x. next) answer (event_said s event stages) → SeesEvent s old (answer >>= λ _. Ok true) new stages next
  event-seen old new event (Ok x) stages next items fault e = (
    message_on old new event stages items fault ∙ ap (λ (r : Result (List Stage) FeedFault). r >>= λ next. message_said s new next) e,
    (let longer : length old.items ≡ suc (length new.items) = ap length items in omega (arith, longer)),
  )
  event-seen old new event (Err fault) stages next items same e =
      refused_or fault (message_said s old stages) (λ f is. message_on old new event stages items same ∙ ap (λ (r : Result (List Stage) FeedFault). r >>= λ next. message_said s new next) (refused_as fault f (event_said s event stages) e is))

  message_end : (old : Reading EventValue EventFault) (stages : List Stage) (end : Option EventFault) → old.items ≡ [] → old.fault ≡ end → message_said s old stages ≡ to_end (end_of_message end) stages
  unfolding events_said
  message_end old stages end none is = rw (none, is) refl

  pub events-done : (old : Reading EventValue EventFault) (stages : List Stage) → old.items ≡ [] → old.fault ≡ None → message_said s old stages ≡ Ok stages
  events-done old stages none is = message_end old stages None none is

  pub events-wrong : (old : Reading EventValue EventFault) (stages : List Stage) (fault : EventFault) → old.items ≡ [] → old.fault ≡ Some fault → message_said s old stages ≡ Err (Event fault)
  events-wrong old stages fault none is = message_end old stages (Some fault) none is

  -- ---- the messages of a feed

  by_first : (r : Result (List Stage) FeedFault) (all front rest : List Stage → Result (List Stage) FeedFault) → ((mid : List Stage) → all mid ≡ front mid >>= rest) → r >>= all ≡ (r >>= front) >>= rest
  by_first (Ok mid) all front rest same = same mid
  by_first (Err f) all front rest same = refl

  split_events : (xs ys : List EventValue) (stages : List Stage) → events_said s (xs ++ ys) stages ≡ events_said s xs stages >>= λ next. events_said s ys next
  unfolding events_said
  split_events [] ys stages = refl
  split_events (x ∷ xs) ys stages = by_first (event_said s x stages) (λ mid. events_said s (xs ++ ys) mid) (λ mid. events_said s xs mid) (λ next. events_said s ys next) (split_events xs ys)

  then_said : (items : List EventValue) (fault : Option EventFault) (others : Reading EventValue FeedFault) (stages : List Stage) → reading_said s (events_then items fault others) stages
      ≡ (events_said s items stages >>= λ next. to_end (end_of_message fault) next) >>= λ next. reading_said s others next
  then_said items None others stages =
      ap (λ (r : Result (List Stage) FeedFault). r >>= λ next. to_end others.fault next) (split_events items others.items stages) ∙ by (events_said s items stages)
    where
      by : (r : Result (List Stage) FeedFault) → (r >>= λ next. events_said s others.items next) >>= (λ next. to_end others.fault next) ≡ (r >>= λ next. Ok next) >>= λ next. reading_said s others next
      by (Ok next) = refl
      by (Err f) = refl
  then_said items (Some fault) others stages = by (events_said s items stages)
    where
      by : (r : Result (List Stage) FeedFault) → r >>= (λ next. Err (Event fault)) ≡ ◌>>=◌ {B = List Stage} (r >>= λ next. Err (Event fault)) (λ next. reading_said s others next)
      by (Ok next) = refl
      by (Err f) = refl

  messages_on : (old new : Reading (List ℕ) FrameFault) (message : List ℕ) (stages : List Stage) → old.items ≡ message ∷ new.items → old.fault ≡ new.fault → messages_said s old stages ≡ message_said s (response_of message) stages >>= λ next. messages_said s new next
  messages_on old new message stages items fault = rw (items, fault) (then_said (response_of message).items (response_of message).fault (events_in_messages new.items new.fault) stages)

  pub message-seen : {U : Type 0} (old new : Reading (List ℕ) FrameFault) (message : List ℕ) (answer : Result U FeedFault) (stages next : List Stage) → old.items ≡ message ∷ new.items → old.fault ≡ new.fault
      → GivesUnless meant_of (λ x. next) answer (message_said s (response_of message) stages) → SeesMessage s old (answer >>= λ _. Ok true) new stages next
  message-seen old new message (Ok x) stages next items fault e = (
    messages_on old new message stages items fault ∙ ap (λ (r : Result (List Stage) FeedFault). r >>= λ next. messages_said s new next) e,
    (let longer : length old.items ≡ suc (length new.items) = ap length items in omega (arith, longer)),
  )
  message-seen old new message (Err fault) stages next items same e =
      refused_or fault (messages_said s old stages) (λ f is. messages_on old new message stages items same ∙ ap (λ (r : Result (List Stage) FeedFault). r >>= λ next. messages_said s new next) (refused_as fault f (message_said s (response_of message) stages) e is))

  messages_end : (old : Reading (List ℕ) FrameFault) (stages : List Stage) (end : Option FrameFault) → old.items ≡ [] → old.fault ≡ end → messages_said s old stages ≡ to_end (fault_of_frame end) stages
  unfolding events_said
  messages_end old stages end none is = rw (none, is) refl

  pub messages-done : (old : Reading (List ℕ) FrameFault) (stages : List Stage) → old.items ≡ [] → old.fault ≡ None → messages_said s old stages ≡ Ok stages
  messages-done old stages none is = messages_end old stages None none is

  pub messages-wrong : (old : Reading (List ℕ) FrameFault) (stages : List Stage) (fault : FrameFault) → old.items ≡ [] → old.fault ≡ Some fault → messages_said s old stages ≡ Err Frame
  messages-wrong old stages fault none is = messages_end old stages (Some fault) none is
