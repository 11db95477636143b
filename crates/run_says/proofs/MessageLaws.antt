-- What the messages of a feed are read as, they say.
use Rattle.std.proofs.Common.{◌≡◌, ℕ, Bool, true, false, eqb, List, [], ◌∷◌, ◌++◌, map, Option, Some, None, Result, Ok, Err, refl, sym, ap, subst, ◌∙◌, inl, inr}
use Rattle.std.specs.Prelude.{IsOk, IfSome, option_map, ◌||◌}
use Rattle.std.specs.List.{AllByRecursion, list_any}
use Rattle.std.specs.Option.{option_to_list}
use Rattle.std.specs.Result.{result_unwrap_or}
use Rattle.std.proofs.lemmas.Bool.{cases_eq, ne_eqb}
use Rattle.item_readers.specs.Reading.{Reading}
use Rattle.item_readers.proofs.ReadingLaws.{reading-none}
use Rattle.proto_wire.specs.Field.{fields_of, field_at}
use Rattle.proto_wire.specs.Parts.{parts, text, single, embedded, is_repeated}
use Rattle.row_view.specs.Row.{RowValue, row_of_message, columns_over, IsRow}
use Rattle.row_view.specs.RowFields.{row_lengths, row_values}
use Rattle.row_view.proofs.RowLaws.{row}
use Rattle.row_view.proofs.ColumnLaws.{columns_over-only}
use Rattle.vevent.specs.EventValue.{EventValue, Gtid, Begin, Commit, Rollback, Row, Field, Vgtid, Ignored}
use Rattle.vevent.specs.declared.ignored.IgnoredEvent.TheVariants.{Ddl, Other, Heartbeat, Version, Savepoint}
use Rattle.vevent.specs.Kind.{kind_of}
use Rattle.vevent.specs.Event.{event_at}
use Rattle.vevent.specs.Response.{put_event, events_of, response_of}
use Rattle.vevent.specs.declared.fault.EventFault.{EventFault}
use Rattle.proto_wire.specs.declared.fault.WireFault.{WireFault}
use Rattle.vevent.specs.Message.{image_of, change_of, column_field_of, shard_gtid_of, event_of}
use Rattle.vevent.specs.Fault.{change_fault, first_row_fault, repeats_a_row, repeats_a_message, row_changes}
use Rattle.vevent.specs.Standing.{IsList, HoldsLists, IsKnownList, AreLists, IsEvent}
use Rattle.vevent.proofs.FirstFault.{none_first, none_second}
use Rattle.vevent.proofs.SoundRows.{found_is_sound}
use Rattle.vevent.proofs.Verdicts.{event_from}
use Rattle.proto_wire.specs.Frame.{frames_of}
use Rattle.proto_wire.specs.declared.fault.FrameFault.{FrameFault}
use Rattle.source_feed.specs.declared.fault.FeedFault.{FeedFault}
use Rattle.source_feed.specs.EventList.{events_then, events_in_messages, events_of_feed}
use Rattle.run_says.specs.Wire.{EachIs, HaveTogether, number_in}
use Rattle.run_says.specs.Messages.{SaysRow, SaysImage, SaysChange, SaysColumn, SaysEntry, HoldEvent, SaysEvent, SaysResponse, HasEvents}
use Rattle.run_says.proofs.WireLaws.{fields_say, frames_say, each_is, held_all, alone, first_or_none, embeds, hold_numbers, signed_numbers, numbers_under_one}

-- ---- rows

pub row_says : (bytes : List ℕ) (columns : RowValue) → row_of_message bytes ≡ Ok columns → SaysRow bytes columns
row_says bytes columns e =
    let is : IsRow bytes columns = (row bytes columns).0 e in (
      (fields_of bytes).items,
      fields_say bytes is.whole.fields,
      numbers_under_one (fields_of bytes).items,
      hold_numbers (fields_of bytes).items is.whole.packed,
      columns_over-only (row_values bytes) (row_lengths bytes) columns is.columns_are ∙ ap (columns_over (row_values bytes)) (signed_numbers (fields_of bytes).items),
    )

unwrap_ok : {A E : Type 0} (r : Result A E) (default : A) → IsOk r → r ≡ Ok (result_unwrap_or r default)
unwrap_ok (Ok x) default h = refl
unwrap_ok (Err f) default h = absurd cc

image_says : (found : List (List ℕ)) (one : Option (List ℕ)) → found ≡ option_to_list one → IfSome one (λ row. IsOk (row_of_message row)) → SaysImage found (option_map image_of one)
image_says found None is sound = is
image_says found (Some part) is sound = (part, is, row_says part (image_of part) (unwrap_ok (row_of_message part) [] sound))

-- ---- changes

or_left : (a b : Bool) → (a || b) ≡ false → a ≡ false
or_left true b e = e
or_left false b e = refl

or_right : (a b : Bool) → (a || b) ≡ false → b ≡ false
or_right true b e = absurd cc
or_right false b e = e

change_says : (change : List ℕ) → IsList change → repeats_a_row change ≡ false → change_fault change ≡ None → SaysChange change (change_of change)
change_says change list once sound = (
  (fields_of change).items,
  fields_say change list,
  image_says (parts 1 change) (single 1 change) (alone (parts 1 change) (or_left (is_repeated 1 change) (is_repeated 2 change) once)) (found_is_sound 1 change (single 1 change) (inl refl) sound refl),
  image_says (parts 2 change) (single 2 change) (alone (parts 2 change) (or_right (is_repeated 1 change) (is_repeated 2 change) once)) (found_is_sound 2 change (single 2 change) (inr refl) sound refl),
)

changes_say : (changes : List (List ℕ)) → AllByRecursion IsList changes → list_any repeats_a_row changes ≡ false → first_row_fault changes ≡ None → AllByRecursion (λ change. SaysChange change (change_of change)) changes
changes_say [] lists once sound = tt
changes_say (change ∷ changes) (list, lists) once sound = (
  change_says change list (or_left (repeats_a_row change) (list_any repeats_a_row changes) once) (none_first (change_fault change) (first_row_fault changes) sound),
  changes_say changes lists (or_right (repeats_a_row change) (list_any repeats_a_row changes) once) (none_second (change_fault change) (first_row_fault changes) sound),
)

-- ---- columns and entries

columns_say : (columns : List (List ℕ)) → AllByRecursion IsList columns → AllByRecursion (λ column. SaysColumn column (column_field_of column)) columns
columns_say [] lists = tt
columns_say (column ∷ columns) (list, lists) = (((fields_of column).items, fields_say column list, refl), columns_say columns lists)

entries_say : (entries : List (List ℕ)) → AllByRecursion IsList entries → AllByRecursion (λ entry. SaysEntry entry (shard_gtid_of entry)) entries
entries_say [] lists = tt
entries_say (entry ∷ entries) (list, lists) = (((fields_of entry).items, fields_say entry list, refl), entries_say entries lists)

-- ---- events

none_held : (number : ℕ) → HoldsLists number []
none_held number = rw (reading-none field_at) (refl, tt)

-- the known messages of an event
known : (event : List ℕ) → AreLists event → (number : ℕ) → AllByRecursion (IsKnownList number) (parts number event)
known event lists number = held_all IsKnownList number (fields_of event).items lists.1

lists_under : (held_number number : ℕ) (event : List ℕ) → AllByRecursion (HoldsLists held_number) (parts number event) → HoldsLists held_number (embedded number event)
lists_under held_number number event h = first_or_none (HoldsLists held_number) (parts number event) (none_held held_number) h

all_weaker : (P Q : List ℕ → Type 0) → ((x : List ℕ) → P x → Q x) → (xs : List (List ℕ)) → AllByRecursion P xs → AllByRecursion Q xs
all_weaker P Q f [] h = tt
all_weaker P Q f (x ∷ xs) (one, others) = (f x one, all_weaker P Q f xs others)

row_event : (event : List ℕ) → AreLists event → HoldsLists 2 (embedded 5 event)
row_event event lists = lists_under 2 5 event (all_weaker (IsKnownList 5) (HoldsLists 2) (λ part h. h.0 refl) (parts 5 event) (known event lists 5))

field_event : (event : List ℕ) → AreLists event → HoldsLists 2 (embedded 6 event)
field_event event lists = lists_under 2 6 event (all_weaker (IsKnownList 6) (HoldsLists 2) (λ part h. h.1 refl) (parts 6 event) (known event lists 6))

vgtid_event : (event : List ℕ) → AreLists event → HoldsLists 1 (embedded 7 event)
vgtid_event event lists = lists_under 1 7 event (all_weaker (IsKnownList 7) (HoldsLists 1) (λ part h. h.2 refl) (parts 7 event) (known event lists 7))

held_lists : (number : ℕ) (message : List ℕ) → HoldsLists number message → AllByRecursion IsList (parts number message)
held_lists number message h = all_weaker (λ part. number ≡ number → IsList part) IsList (λ part is. is refl) (parts number message) (held_all (λ n part. n ≡ number → IsList part) number (fields_of message).items h.1)

-- none of the messages of an event stands twice
record StandOnce (event : List ℕ) : Type 0 where
  row_event : is_repeated 5 event ≡ false
  field_event : is_repeated 6 event ≡ false
  vgtid : is_repeated 7 event ≡ false
  rows : list_any repeats_a_row (row_changes event) ≡ false

stand_once : (event : List ℕ) → repeats_a_message event ≡ false → StandOnce event
stand_once event e =
    let row = is_repeated 5 event in
    let field = is_repeated 6 event in
    let vgtid = is_repeated 7 event in
    let rows = list_any repeats_a_row (row_changes event) in
    let three = or_left ((row || field) || vgtid) rows e in
    let two = or_left (row || field) vgtid three in
    record {
      row_event = or_left row field two;
      field_event = or_right row field two;
      vgtid = or_right (row || field) vgtid three;
      rows = or_right ((row || field) || vgtid) rows e;
    }

-- the event of a type's number
abbrev said_by : List ℕ → ℕ → Option EventValue
said_by event n = option_map (λ k. event_of k event) (kind_of n)

-- what is known of an event, and its value by its type's number
record IsKnown (event : List ℕ) (value : EventValue) : Type 0 where
  lists : AreLists event
  once : StandOnce event
  said : said_by event (number_in 1 (fields_of event).items) ≡ Some value
  sound : first_row_fault (row_changes event) ≡ None

is_known : (event : List ℕ) (value : EventValue) → IsEvent event value → IsKnown event value
is_known event value is = record {
  lists = is.1.0.0.0.0.0;
  once = stand_once event is.1.0.0.0.0.1;
  said = ap (option_map (λ k. event_of k event)) is.1.0.0.0.1 ∙ ap Some (sym is.2);
  sound = is.1.1;
}

holds_at : (event : List ℕ) (value own : EventValue) (n m : ℕ) → n ≡ m → said_by event n ≡ Some value → said_by event m ≡ Some own → HoldEvent (fields_of event).items own → HoldEvent (fields_of event).items value
holds_at event value own n m e said is h =
    let both : Some own ≡ Some value = sym is ∙ (ap (said_by event) (sym e) ∙ said) in
    let same : own ≡ value = cc in
    subst (HoldEvent (fields_of event).items) same h

abbrev type_at : List ℕ → ℕ
type_at event = number_in 1 (fields_of event).items

abbrev event_of_row : List ℕ → EventValue
event_of_row event = Row (text 1 (embedded 5 event)) (map change_of (row_changes event))

abbrev event_of_field : List ℕ → EventValue
event_of_field event = Field (text 1 (embedded 6 event)) (map column_field_of (parts 2 (embedded 6 event)))

abbrev event_of_vgtid : List ℕ → EventValue
event_of_vgtid event = Vgtid (map shard_gtid_of (parts 1 (embedded 7 event)))

row_holds : (event : List ℕ) (value : EventValue) → IsKnown event value → type_at event ≡ 12 → HoldEvent (fields_of event).items (event_of_row event)
row_holds event value known number =
    let inner = row_event event known.lists in
    (number, (fields_of (embedded 5 event)).items, embeds 5 event known.once.row_event inner.0, refl, each_is SaysChange change_of (row_changes event) (changes_say (row_changes event) (held_lists 2 (embedded 5 event) inner) known.once.rows known.sound))

field_holds : (event : List ℕ) (value : EventValue) → IsKnown event value → type_at event ≡ 13 → HoldEvent (fields_of event).items (event_of_field event)
field_holds event value known number =
    let inner = field_event event known.lists in
    (number, (fields_of (embedded 6 event)).items, embeds 6 event known.once.field_event inner.0, refl, each_is SaysColumn column_field_of (parts 2 (embedded 6 event)) (columns_say (parts 2 (embedded 6 event)) (held_lists 2 (embedded 6 event) inner)))

vgtid_holds : (event : List ℕ) (value : EventValue) → IsKnown event value → type_at event ≡ 15 → HoldEvent (fields_of event).items (event_of_vgtid event)
vgtid_holds event value known number =
    let inner = vgtid_event event known.lists in
    (number, (fields_of (embedded 7 event)).items, embeds 7 event known.once.vgtid inner.0, each_is SaysEntry shard_gtid_of (parts 1 (embedded 7 event)) (entries_say (parts 1 (embedded 7 event)) (held_lists 1 (embedded 7 event) inner)))

event_holds : (event : List ℕ) (value : EventValue) → IsKnown event value → HoldEvent (fields_of event).items value
event_holds event value known =
    elim (cases_eq (type_at event) 1) [
      | inl e ↦ holds_at event value (Gtid (text 3 event)) (type_at event) 1 e known.said refl ((e, refl))
      | inr not1 ↦
          elim (cases_eq (type_at event) 2) [
            | inl e ↦ holds_at event value (Begin) (type_at event) 2 e known.said refl (e)
            | inr not2 ↦
                elim (cases_eq (type_at event) 3) [
                  | inl e ↦ holds_at event value (Commit) (type_at event) 3 e known.said refl (e)
                  | inr not3 ↦
                      elim (cases_eq (type_at event) 4) [
                        | inl e ↦ holds_at event value (Rollback) (type_at event) 4 e known.said refl (e)
                        | inr not4 ↦
                            elim (cases_eq (type_at event) 5) [
                              | inl e ↦ holds_at event value (Ignored Ddl) (type_at event) 5 e known.said refl (e)
                              | inr not5 ↦
                                  elim (cases_eq (type_at event) 11) [
                                    | inl e ↦ holds_at event value (Ignored Other) (type_at event) 11 e known.said refl (e)
                                    | inr not11 ↦
                                        elim (cases_eq (type_at event) 12) [
                                          | inl e ↦ holds_at event value (event_of_row event) (type_at event) 12 e known.said refl (row_holds event value known e)
                                          | inr not12 ↦
                                              elim (cases_eq (type_at event) 13) [
                                                | inl e ↦ holds_at event value (event_of_field event) (type_at event) 13 e known.said refl (field_holds event value known e)
                                                | inr not13 ↦
                                                    elim (cases_eq (type_at event) 14) [
                                                      | inl e ↦ holds_at event value (Ignored Heartbeat) (type_at event) 14 e known.said refl (e)
                                                      | inr not14 ↦
                                                          elim (cases_eq (type_at event) 15) [
                                                            | inl e ↦ holds_at event value (event_of_vgtid event) (type_at event) 15 e known.said refl (vgtid_holds event value known e)
                                                            | inr not15 ↦
                                                                elim (cases_eq (type_at event) 17) [
                                                                  | inl e ↦ holds_at event value (Ignored Version) (type_at event) 17 e known.said refl (e)
                                                                  | inr not17 ↦
                                                                      elim (cases_eq (type_at event) 19) [
                                                                        | inl e ↦ holds_at event value (Ignored Savepoint) (type_at event) 19 e known.said refl (e)
                                                                        | inr not19 ↦
                                                                            let t1 : eqb (type_at event) 1 ≡ false = ne_eqb (type_at event) 1 not1 in
                                                                            let t2 : eqb (type_at event) 2 ≡ false = ne_eqb (type_at event) 2 not2 in
                                                                            let t3 : eqb (type_at event) 3 ≡ false = ne_eqb (type_at event) 3 not3 in
                                                                            let t4 : eqb (type_at event) 4 ≡ false = ne_eqb (type_at event) 4 not4 in
                                                                            let t5 : eqb (type_at event) 5 ≡ false = ne_eqb (type_at event) 5 not5 in
                                                                            let t11 : eqb (type_at event) 11 ≡ false = ne_eqb (type_at event) 11 not11 in
                                                                            let t12 : eqb (type_at event) 12 ≡ false = ne_eqb (type_at event) 12 not12 in
                                                                            let t13 : eqb (type_at event) 13 ≡ false = ne_eqb (type_at event) 13 not13 in
                                                                            let t14 : eqb (type_at event) 14 ≡ false = ne_eqb (type_at event) 14 not14 in
                                                                            let t15 : eqb (type_at event) 15 ≡ false = ne_eqb (type_at event) 15 not15 in
                                                                            let t17 : eqb (type_at event) 17 ≡ false = ne_eqb (type_at event) 17 not17 in
                                                                            let t19 : eqb (type_at event) 19 ≡ false = ne_eqb (type_at event) 19 not19 in
                                                                            let none : said_by event (type_at event) ≡ None = rw (t1, t2, t3, t4, t5, t11, t12, t13, t14, t15, t17, t19) refl in
                                                                            let some : said_by event (type_at event) ≡ Some value = known.said in
                                                                            absurd cc
                                                                      ]
                                                                ]
                                                          ]
                                                    ]
                                              ]
                                        ]
                                  ]
                            ]
                      ]
                ]
          ]
    ]

pub event_says : (event : List ℕ) (value : EventValue) → event_at event ≡ Ok value → SaysEvent event value
event_says event value e =
    let known = is_known event value (event_from event value e) in
    ((fields_of event).items, fields_say event known.lists.0, event_holds event value known)

-- ---- responses

first_says : (message : List ℕ) (messages : List (List ℕ)) (end : Option WireFault) (r : Result EventValue EventFault) (others : Reading EventValue EventFault) → event_at message ≡ r
    → (others.fault ≡ None → (end ≡ None) × EachIs SaysEvent messages others.items) → (put_event r others).fault ≡ None → (end ≡ None) × EachIs SaysEvent (message ∷ messages) (put_event r others).items
first_says message messages end (Ok event) others is later e = let rest = later e in (rest.0, (event_says message event is, rest.1))
first_says message messages end (Err fault) others is later e = absurd cc

-- the events of messages without a fault
pub events_say : (messages : List (List ℕ)) (end : Option WireFault) → (events_of messages end).fault ≡ None → (end ≡ None) × EachIs SaysEvent messages (events_of messages end).items
events_say [] None e = (refl, tt)
events_say [] (Some fault) e = absurd cc
events_say (message ∷ messages) end e = first_says message messages end (event_at message) (events_of messages end) refl (events_say messages end) e

pub response_says : (message : List ℕ) → (response_of message).fault ≡ None → SaysResponse message (response_of message).items
unfolding response_of
response_says message e =
    let events = events_say (parts 1 message) (fields_of message).fault e in
    ((fields_of message).items, fields_say message events.0, events.1)

-- ---- the feed

then_nothing : (events : List EventValue) (fault : Option EventFault) (others : Reading EventValue FeedFault) → (events_then events fault others).fault ≡ None → (fault ≡ None) × (others.fault ≡ None) × ((events_then events fault others).items ≡ events ++ others.items)
then_nothing events None others e = (refl, e, refl)
then_nothing events (Some fault) others e = absurd cc

messages_say : (messages : List (List ℕ)) (end : Option FrameFault) → (events_in_messages messages end).fault ≡ None → (end ≡ None) × HaveTogether SaysResponse messages (events_in_messages messages end).items
messages_say [] None e = (refl, refl)
messages_say [] (Some fault) e = absurd cc
messages_say (message ∷ messages) end e =
    let here = then_nothing (response_of message).items (response_of message).fault (events_in_messages messages end) e in
    let rest = messages_say messages end here.1 in
    (rest.0, ((response_of message).items, (events_in_messages messages end).items, response_says message here.0, rest.1, here.2))

pub feed_says : (feed : List ℕ) → (events_of_feed feed).fault ≡ None → HasEvents feed (events_of_feed feed).items
feed_says feed e =
    let all = messages_say (frames_of feed).items (frames_of feed).fault e in
    ((frames_of feed).items, frames_say feed all.0, all.1)
