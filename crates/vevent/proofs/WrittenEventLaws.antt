-- An event that is written is read again.
use Rattle.std.proofs.Common.{◌≡◌, ℕ, ◌^◌, ◌<◌, ◌≤◌, Bool, true, false, cond, eqb, List, [], ◌∷◌, ◌++◌, map, length, Option, Some, None, Ok, refl, sym, ap, ◌∙◌, arith}
use Rattle.std.specs.Prelude.{◌||◌, ◌&&◌, nat_lt, IfSome, option_map, unwrap_or}
use Rattle.std.specs.List.{filter_map, list_any, list_all, AllByRecursion}
use Rattle.std.specs.Option.{option_or}
use Rattle.std.specs.Str.{is_utf8}
use Rattle.std.proofs.lemmas.Bool.{eqb-true}
use Rattle.std.proofs.lemmas.List.{length-append}
use Rattle.proto_wire.specs.declared.fault.WireFault.{WireFault}
use Rattle.proto_wire.specs.Reading.{Reading}
use Rattle.proto_wire.specs.Field.{WireField, Varint, Bytes, fields_of}
use Rattle.proto_wire.specs.Parts.{part_in, count_in, last_of, first_of, text, scalar, parts, embedded, is_repeated}
use Rattle.proto_wire.specs.Writing.{written_field, written_fields, number_field, text_field, message_field, FieldsAreReadAgain}
use Rattle.row_view.specs.declared.fault.RowFault.{RowFault}
use Rattle.row_view.specs.WrittenRow.{IsWithinLimits, RowsAreReadAgain}
use Rattle.vevent.specs.declared.ignored.IgnoredEvent.TheVariants.{Ddl, Other, Heartbeat, Version, Savepoint}
use Rattle.vevent.specs.declared.kind.EventKind.{EventKind}
use Rattle.vevent.specs.declared.kind.EventKind.TheVariants as kind
use Rattle.row_view.specs.FieldValue.{FieldValue}
use Rattle.vevent.specs.EventValue.{ChangeValue, ShardGtidValue, EventValue, Gtid, Begin, Commit, Rollback, Row, Field, Vgtid, Ignored}
use Rattle.vevent.specs.Kind.{kind_of}
use Rattle.vevent.specs.Fault.{first_in, in_plain, in_event, event_wire_fault, row_changes, repeats_a_row, repeats_a_message, are_entry_texts, are_texts, is_other_field, is_partial, in_change, change_fault, first_row_fault}
use Rattle.vevent.specs.Message.{image_of, change_of, column_field_of, shard_gtid_of, event_of}
use Rattle.vevent.specs.Event.{event_at}
use Rattle.vevent.specs.WrittenEvent.{message_fields, row_field, written_change, written_row_event, written_column, written_field_event, written_shard_gtid, written_vgtid, written_event, AreWithinLimits, IsColumn, AreTexts, EventsAreReadAgain}
use Rattle.vevent.proofs.ListLaws.{lists_from}
use Rattle.vevent.proofs.Verdicts.{every_event}
use Rattle.vevent.proofs.WrittenParts.{ArePlain, Reads, reads_back, parts_are, text_is, scalar_is, end_is, wire_is, plain_text, plain_both, own_parts, plain_messages, message_short, messages_short, AreLists, wire_of_messages, named, wire_of_named, named_short}

-- ---- row changes

-- what is true of a row change that was written
record IsChange (bytes : List ℕ) (change : ChangeValue) : Type 0 where
  pub list : (fields_of bytes).fault ≡ None
  pub once : repeats_a_row bytes ≡ false
  pub whole : is_partial bytes ≡ false
  pub rows : change_fault bytes ≡ None
  pub value : change_of bytes ≡ change

abbrev Image : Type 0
Image = List (Option (List ℕ))

abbrev images : Option Image → Option Image → List WireField
images before after = row_field 1 before ++ row_field 2 after

images_plain : (before after : Option Image) → ArePlain (images before after)
images_plain None None = tt
images_plain None (Some a) = (record { number = (omega arith, omega arith); payload = tt }, tt)
images_plain (Some b) None = (record { number = (omega arith, omega arith); payload = tt }, tt)
images_plain (Some b) (Some a) = (record { number = (omega arith, omega arith); payload = tt }, (record { number = (omega arith, omega arith); payload = tt }, tt))

images_once : (before after : Option Image) → (nat_lt 1 (length (filter_map (part_in 1) (images before after))) || nat_lt 1 (length (filter_map (part_in 2) (images before after)))) ≡ false
images_once None None = refl
images_once None (Some a) = refl
images_once (Some b) None = refl
images_once (Some b) (Some a) = refl

images_whole : (before after : Option Image) → list_any is_other_field (images before after) ≡ false
images_whole None None = refl
images_whole None (Some a) = refl
images_whole (Some b) None = refl
images_whole (Some b) (Some a) = refl

images_rows : (law : RowsAreReadAgain) (before after : Option Image) → IfSome before IsWithinLimits → IfSome after IsWithinLimits → first_in in_change (images before after) None ≡ None
images_rows law None None b a = refl
images_rows law None (Some row) b a = rw (law row a) refl
images_rows law (Some row) None b a = rw (law row b) refl
images_rows law (Some row) (Some other) b a = rw (law row b, law other a) refl

images_value : (law : RowsAreReadAgain) (before after : Option Image) → IfSome before IsWithinLimits → IfSome after IsWithinLimits
    → (option_map image_of (first_of (filter_map (part_in 1) (images before after))) ≡ before) × (option_map image_of (first_of (filter_map (part_in 2) (images before after))) ≡ after)
images_value law None None b a = (refl, refl)
images_value law None (Some row) b a = (refl, rw (law row a) refl)
images_value law (Some row) None b a = (rw (law row b) refl, refl)
images_value law (Some row) (Some other) b a = (rw (law row b) refl, rw (law other a) refl)

abbrev change_with : Option Image → Option Image → ChangeValue
change_with before after = record { before = before; after = after }

change_is : (x y : Option Image) (change : ChangeValue) → x ≡ change.before → y ≡ change.after → change_with x y ≡ change
change_is x y change e f = ap (λ (b : Option Image). change_with b y) e ∙ ap (λ (a : Option Image). change_with change.before a) f

change_back : FieldsAreReadAgain → RowsAreReadAgain → (change : ChangeValue) → AreWithinLimits change → length (written_change change) < 2 ^ 64 → IsChange (written_change change) change
change_back fields rows change limits short =
    let before = change.before in
    let after = change.after in
    let list = images before after in
    let bytes = written_fields list in
    let read : Reads bytes list = reads_back fields list (images_plain before after) short in
    let value = images_value rows before after limits.before limits.after in
    record {
      list = end_is bytes list read;
      once = ap (λ (r : Reading WireField WireFault). nat_lt 1 (length (filter_map (part_in 1) r.items)) || nat_lt 1 (length (filter_map (part_in 2) r.items))) read ∙ images_once before after;
      whole = ap (λ (r : Reading WireField WireFault). list_any is_other_field r.items) read ∙ images_whole before after;
      rows = ap (λ (r : Reading WireField WireFault). first_in in_change r.items None) read ∙ images_rows rows before after limits.before limits.after;
      value = ap (λ (r : Reading WireField WireFault). change_with (option_map image_of (first_of (filter_map (part_in 1) r.items))) (option_map image_of (first_of (filter_map (part_in 2) r.items)))) read ∙ change_is _ _ change value.0 value.1;
    }

-- what is true of row changes that were written
record AreChanges (messages : List (List ℕ)) (changes : List ChangeValue) : Type 0 where
  pub lists : AreLists messages
  pub once : list_any repeats_a_row messages ≡ false
  pub whole : list_any is_partial messages ≡ false
  pub rows : first_row_fault messages ≡ None
  pub value : map change_of messages ≡ changes

pub either : (a b : Bool) → a ≡ false → b ≡ false → (a || b) ≡ false
either a b e f = rw (e, f) refl

pub and_both : (a b : Bool) → a ≡ true → b ≡ true → (a && b) ≡ true
and_both a b e f = rw (e, f) refl

pub neither : (a b : Option RowFault) → a ≡ None → b ≡ None → option_or a b ≡ None
neither a b e f = rw (e, f) refl

pub cons_is : {A : Type 0} (x y : A) (xs ys : List A) → x ≡ y → xs ≡ ys → x ∷ xs ≡ y ∷ ys
cons_is {A} x y xs ys e f = ap (λ (z : A). z ∷ xs) e ∙ ap (λ (zs : List A). y ∷ zs) f

changes_back : FieldsAreReadAgain → RowsAreReadAgain → (changes : List ChangeValue) → AllByRecursion AreWithinLimits changes → AllByRecursion (λ m. length m < 2 ^ 64) (map written_change changes) → AreChanges (map written_change changes) changes
changes_back fields rows [] limits short = record { lists = tt; once = refl; whole = refl; rows = refl; value = refl }
changes_back fields rows (c ∷ cs) limits short =
    let one = change_back fields rows c limits.0 short.0 in
    let others = changes_back fields rows cs limits.1 short.1 in
    let bytes = written_change c in
    let messages = map written_change cs in
    record {
      lists = (one.list, others.lists);
      once = either (repeats_a_row bytes) (list_any repeats_a_row messages) one.once others.once;
      whole = either (is_partial bytes) (list_any is_partial messages) one.whole others.whole;
      rows = neither (change_fault bytes) (first_row_fault messages) one.rows others.rows;
      value = cons_is (change_of bytes) c (map change_of messages) cs one.value others.value;
    }

-- ---- columns

abbrev column_list : List ℕ → ℕ → List WireField
column_list name number = text_field 1 name ++ number_field 2 number

-- what is true of a column that was written
record IsColumnOf (bytes : List ℕ) (field : FieldValue) : Type 0 where
  pub list : (fields_of bytes).fault ≡ None
  pub name : text 1 bytes ≡ field.name
  pub number : scalar 2 bytes ≡ field.type_number

number_plain : (n : ℕ) (default : Bool) → n < 2 ^ 64 → ArePlain (cond default [] (record { number = 2; value = Varint n } ∷ []))
number_plain n true lt = tt
number_plain n false lt = (record { number = (omega arith, omega arith); payload = lt }, tt)

column_held : (name : List ℕ) (n : ℕ) (default : Bool) → (default ≡ true → n ≡ 0)
    → (let fields : List WireField = text_field 1 name ++ cond default [] (record { number = 2; value = Varint n } ∷ []) in
    (last_of [] (filter_map (part_in 1) fields) ≡ name) × (last_of 0 (filter_map (count_in 2) fields) ≡ n))
column_held [] n true zero = (refl, sym (zero refl))
column_held [] n false zero = (refl, refl)
column_held (b ∷ bs) n true zero = (refl, sym (zero refl))
column_held (b ∷ bs) n false zero = (refl, refl)

column_back : FieldsAreReadAgain → (field : FieldValue) → IsColumn field → length (written_column field) < 2 ^ 64 → IsColumnOf (written_column field) field
column_back fields field is short =
    let n = field.type_number in
    let list = column_list field.name n in
    let bytes = written_fields list in
    let plain = plain_both (text_field 1 field.name) (number_field 2 n) (plain_text 1 field.name (omega arith, omega arith)) (number_plain n (eqb n 0) is.number) in
    let read : Reads bytes list = reads_back fields list plain short in
    let held = column_held field.name n (eqb n 0) (λ e. eqb-true n 0 e) in
    record {
      list = end_is bytes list read;
      name = text_is bytes list read 1 ∙ held.0;
      number = scalar_is bytes list read 2 ∙ held.1;
    }

abbrev field_with : List ℕ → ℕ → FieldValue
field_with name number = record { name = name; type_number = number }

field_is : (x : List ℕ) (n : ℕ) (field : FieldValue) → x ≡ field.name → n ≡ field.type_number → field_with x n ≡ field
field_is x n field e f = ap (λ (y : List ℕ). field_with y n) e ∙ ap (λ (m : ℕ). field_with field.name m) f

-- what is true of columns that were written
pub record AreColumnsOf (messages : List (List ℕ)) (fields : List FieldValue) : Type 0 where
  pub lists : AreLists messages
  pub names : list_all (λ field. is_utf8 (text 1 field)) messages ≡ true
  pub value : map column_field_of messages ≡ fields

pub columns_back : FieldsAreReadAgain → (fields : List FieldValue) → AllByRecursion IsColumn fields → AllByRecursion (λ m. length m < 2 ^ 64) (map written_column fields) → AreColumnsOf (map written_column fields) fields
columns_back law [] is short = record { lists = tt; names = refl; value = refl }
columns_back law (f ∷ fs) is short =
    let one = column_back law f is.0 short.0 in
    let others = columns_back law fs is.1 short.1 in
    let bytes = written_column f in
    let messages = map written_column fs in
    record {
      lists = (one.list, others.lists);
      names = and_both (is_utf8 (text 1 bytes)) (list_all (λ field. is_utf8 (text 1 field)) messages) (ap is_utf8 one.name ∙ is.0.name) others.names;
      value = cons_is (column_field_of bytes) f (map column_field_of messages) fs (field_is (text 1 bytes) (scalar 2 bytes) f one.name one.number) others.value;
    }

-- ---- entries

abbrev entry_list : List ℕ → List ℕ → List ℕ → List WireField
entry_list keyspace shard gtid = text_field 1 keyspace ++ text_field 2 shard ++ text_field 3 gtid

entry_held : (k s g : List ℕ) → (last_of [] (filter_map (part_in 1) (entry_list k s g)) ≡ k) × (last_of [] (filter_map (part_in 2) (entry_list k s g)) ≡ s) × (last_of [] (filter_map (part_in 3) (entry_list k s g)) ≡ g)
entry_held [] [] [] = (refl, refl, refl)
entry_held [] [] (c ∷ g) = (refl, refl, refl)
entry_held [] (b ∷ s) [] = (refl, refl, refl)
entry_held [] (b ∷ s) (c ∷ g) = (refl, refl, refl)
entry_held (a ∷ k) [] [] = (refl, refl, refl)
entry_held (a ∷ k) [] (c ∷ g) = (refl, refl, refl)
entry_held (a ∷ k) (b ∷ s) [] = (refl, refl, refl)
entry_held (a ∷ k) (b ∷ s) (c ∷ g) = (refl, refl, refl)

-- what is true of an entry that was written
record IsEntryOf (bytes : List ℕ) (entry : ShardGtidValue) : Type 0 where
  pub list : (fields_of bytes).fault ≡ None
  pub keyspace : text 1 bytes ≡ entry.keyspace
  pub shard : text 2 bytes ≡ entry.shard
  pub gtid : text 3 bytes ≡ entry.gtid

entry_back : FieldsAreReadAgain → (entry : ShardGtidValue) → length (written_shard_gtid entry) < 2 ^ 64 → IsEntryOf (written_shard_gtid entry) entry
entry_back law entry short =
    let list = entry_list entry.keyspace entry.shard entry.gtid in
    let bytes = written_fields list in
    let front = plain_both (text_field 1 entry.keyspace) (text_field 2 entry.shard) (plain_text 1 entry.keyspace (omega arith, omega arith)) (plain_text 2 entry.shard (omega arith, omega arith)) in
    let plain = plain_both (text_field 1 entry.keyspace ++ text_field 2 entry.shard) (text_field 3 entry.gtid) front (plain_text 3 entry.gtid (omega arith, omega arith)) in
    let read : Reads bytes list = reads_back law list plain short in
    let held = entry_held entry.keyspace entry.shard entry.gtid in
    record {
      list = end_is bytes list read;
      keyspace = text_is bytes list read 1 ∙ held.0;
      shard = text_is bytes list read 2 ∙ held.1;
      gtid = text_is bytes list read 3 ∙ held.2;
    }

abbrev entry_with : List ℕ → List ℕ → List ℕ → ShardGtidValue
entry_with keyspace shard gtid = record { keyspace = keyspace; shard = shard; gtid = gtid }

entry_is : (k s g : List ℕ) (entry : ShardGtidValue) → k ≡ entry.keyspace → s ≡ entry.shard → g ≡ entry.gtid → entry_with k s g ≡ entry
entry_is k s g entry e f h = ap (λ (x : List ℕ). entry_with x s g) e ∙ ap (λ (x : List ℕ). entry_with entry.keyspace x g) f ∙ ap (λ (x : List ℕ). entry_with entry.keyspace entry.shard x) h

entry_texts : (bytes : List ℕ) (entry : ShardGtidValue) → IsEntryOf bytes entry → AreTexts entry → are_entry_texts bytes ≡ true
entry_texts bytes entry h is =
    let keyspace = ap is_utf8 h.keyspace ∙ is.keyspace in
    let shard = ap is_utf8 h.shard ∙ is.shard in
    and_both (is_utf8 (text 1 bytes) && is_utf8 (text 2 bytes)) (is_utf8 (text 3 bytes)) (and_both (is_utf8 (text 1 bytes)) (is_utf8 (text 2 bytes)) keyspace shard) (ap is_utf8 h.gtid ∙ is.gtid)

-- what is true of entries that were written
record AreEntriesOf (messages : List (List ℕ)) (entries : List ShardGtidValue) : Type 0 where
  pub lists : AreLists messages
  pub texts : list_all are_entry_texts messages ≡ true
  pub value : map shard_gtid_of messages ≡ entries

entries_back : FieldsAreReadAgain → (entries : List ShardGtidValue) → AllByRecursion AreTexts entries → AllByRecursion (λ m. length m < 2 ^ 64) (map written_shard_gtid entries) → AreEntriesOf (map written_shard_gtid entries) entries
entries_back law [] is short = record { lists = tt; texts = refl; value = refl }
entries_back law (e ∷ es) is short =
    let one = entry_back law e short.0 in
    let others = entries_back law es is.1 short.1 in
    let bytes = written_shard_gtid e in
    let messages = map written_shard_gtid es in
    record {
      lists = (one.list, others.lists);
      texts = and_both (are_entry_texts bytes) (list_all are_entry_texts messages) (entry_texts bytes e one is.0) others.texts;
      value = cons_is (shard_gtid_of bytes) e (map shard_gtid_of messages) es (entry_is (text 1 bytes) (text 2 bytes) (text 3 bytes) e one.keyspace one.shard one.gtid) others.value;
    }

-- ---- the event

-- each condition of an accepted event, as an equation
record IsReadAs (bytes : List ℕ) (sort : EventKind) (event : EventValue) : Type 0 where
  pub wire : event_wire_fault bytes ≡ None
  pub once : repeats_a_message bytes ≡ false
  pub type_is : kind_of (scalar 1 bytes) ≡ Some sort
  pub texts : are_texts sort bytes ≡ true
  pub whole : list_any is_partial (row_changes bytes) ≡ false
  pub rows : first_row_fault (row_changes bytes) ≡ None
  pub value : event_of sort bytes ≡ event

read_as : (bytes : List ℕ) (sort : EventKind) (event : EventValue) → IsReadAs bytes sort event → event_at bytes ≡ Ok event
read_as bytes sort event h = every_event bytes event (sort, (((((lists_from bytes h.wire, h.once), h.type_is), h.texts), h.whole), h.rows), sym h.value)

-- the row changes in what stands under 5
abbrev changes_under : List (List ℕ) → List (List ℕ)
changes_under messages = parts 2 (unwrap_or (first_of messages) [])

changes_are : (bytes : List ℕ) (fields : List WireField) → Reads bytes fields → row_changes bytes ≡ changes_under (filter_map (part_in 5) fields)
changes_are bytes fields read = ap changes_under (parts_are bytes fields read 5)

none_under : FieldsAreReadAgain → changes_under [] ≡ []
none_under law = ap (λ (r : Reading WireField WireFault). filter_map (part_in 2) r.items) (law [] tt)

abbrev several : ℕ → List WireField → Bool
several number fields = nat_lt 1 (length (filter_map (part_in number) fields))

-- none of the three messages occurs twice
stands_alone : (bytes : List ℕ) (fields : List WireField) (changes : List (List ℕ)) → Reads bytes fields → row_changes bytes ≡ changes → list_any repeats_a_row changes ≡ false
    → several 5 fields ≡ false → several 6 fields ≡ false → several 7 fields ≡ false → repeats_a_message bytes ≡ false
stands_alone bytes fields changes read are once five six seven =
    let count : (number : ℕ) → is_repeated number bytes ≡ several number fields = λ number. ap (λ (r : Reading WireField WireFault). several number r.items) read in
    four (is_repeated 5 bytes) (is_repeated 6 bytes) (is_repeated 7 bytes) (list_any repeats_a_row (row_changes bytes)) (count 5 ∙ five) (count 6 ∙ six) (count 7 ∙ seven) (ap (λ (ms : List (List ℕ)). list_any repeats_a_row ms) are ∙ once)
  where
    four : (a b c d : Bool) → a ≡ false → b ≡ false → c ≡ false → d ≡ false → (a || b || c || d) ≡ false
    four a b c d e f g h = rw (e, f, g, h) refl

-- an event without rows
rowless : (bytes : List ℕ) (fields : List WireField) (sort : EventKind) (event : EventValue) → Reads bytes fields → row_changes bytes ≡ []
    → first_in in_event fields None ≡ None → several 5 fields ≡ false → several 6 fields ≡ false → several 7 fields ≡ false
    → kind_of (last_of 0 (filter_map (count_in 1) fields)) ≡ Some sort → are_texts sort bytes ≡ true → event_of sort bytes ≡ event → IsReadAs bytes sort event
rowless bytes fields sort event read none wire five six seven type_is texts value = record {
  wire = wire_is bytes fields read in_event ∙ wire;
  once = stands_alone bytes fields [] read none refl five six seven;
  type_is = ap kind_of (scalar_is bytes fields read 1) ∙ type_is;
  texts = texts;
  whole = ap (λ (ms : List (List ℕ)). list_any is_partial ms) none;
  rows = ap first_row_fault none;
  value = value;
}

-- an event of its type alone
bare : FieldsAreReadAgain → (bytes : List ℕ) (number : ℕ) (sort : EventKind) (event : EventValue) → Reads bytes (record { number = 1; value = Varint number } ∷ []) → kind_of number ≡ Some sort → are_texts sort bytes ≡ true → event_of sort bytes ≡ event → event_at bytes ≡ Ok event
bare law bytes number sort event read type_is texts value =
    let fields : List WireField = record { number = 1; value = Varint number } ∷ [] in
    read_as bytes sort event (rowless bytes fields sort event read (changes_are bytes fields read ∙ none_under law) refl refl refl refl type_is texts value)

one_plain : (number : ℕ) → number < 2 ^ 64 → ArePlain (record { number = 1; value = Varint number } ∷ [])
one_plain number lt = (record { number = (omega arith, omega arith); payload = lt }, tt)

with_message : (number field : ℕ) (message : List ℕ) → number < 2 ^ 64 → (1 ≤ field) × (field < 2 ^ 29) → ArePlain (record { number = 1; value = Varint number } ∷ message_field field message ∷ [])
with_message number field message lt is = (record { number = (omega arith, omega arith); payload = lt }, (record { number = is; payload = tt }, tt))

-- the message of an event is short where the event is
body_short : (number field : ℕ) (message : List ℕ) → length (written_fields (record { number = 1; value = Varint number } ∷ message_field field message ∷ [])) < 2 ^ 64 → length message < 2 ^ 64
body_short number field message short =
    let head = written_field (record { number = 1; value = Varint number }) in
    let body = written_field (message_field field message) in
    let rest : length (body ++ []) < 2 ^ 64 = omega (arith, length-append head (body ++ []), short) in
    let alone : length body < 2 ^ 64 = omega (arith, length-append body [], rest) in
    message_short field message alone

gtid_again : FieldsAreReadAgain → (position : List ℕ) → is_utf8 position ≡ true → length (written_event (Gtid position)) < 2 ^ 64 → event_at (written_event (Gtid position)) ≡ Ok (Gtid position)
gtid_again law [] is short =
    let fields : List WireField = record { number = 1; value = Varint 1 } ∷ [] in
    let bytes = written_fields fields in
    let read : Reads bytes fields = reads_back law fields (one_plain 1 (omega arith)) short in
    let held = text_is bytes fields read 3 in
    bare law bytes 1 kind.Gtid (Gtid []) read refl (ap is_utf8 held ∙ is) (ap Gtid held)
gtid_again law (b ∷ bs) is short =
    let position = b ∷ bs in
    let fields : List WireField = record { number = 1; value = Varint 1 } ∷ record { number = 3; value = Bytes position } ∷ [] in
    let bytes = written_fields fields in
    let plain : ArePlain fields = (record { number = (omega arith, omega arith); payload = omega arith }, (record { number = (omega arith, omega arith); payload = tt }, tt)) in
    let read : Reads bytes fields = reads_back law fields plain short in
    let held = text_is bytes fields read 3 in
    read_as bytes kind.Gtid (Gtid position) (rowless bytes fields kind.Gtid (Gtid position) read (changes_are bytes fields read ∙ none_under law) refl refl refl refl refl (ap is_utf8 held ∙ is) (ap Gtid held))

row_again : FieldsAreReadAgain → RowsAreReadAgain → (name : List ℕ) (changes : List ChangeValue) → is_utf8 name ≡ true → AllByRecursion AreWithinLimits changes → length (written_event (Row name changes)) < 2 ^ 64 → event_at (written_event (Row name changes)) ≡ Ok (Row name changes)
row_again law rows name changes is_text limits short =
    let messages = map written_change changes in
    let inner = written_row_event name changes in
    let fields : List WireField = record { number = 1; value = Varint 12 } ∷ message_field 5 inner ∷ [] in
    let bytes = written_fields fields in
    let read : Reads bytes fields = reads_back law fields (with_message 12 5 inner (omega arith) (omega arith, omega arith)) short in
    let inner_short = body_short 12 5 inner short in
    let is = named law name messages inner_short in
    let are = changes_back law rows changes limits (named_short name messages inner_short) in
    let changes_held : row_changes bytes ≡ messages = changes_are bytes fields read ∙ is.parts_are in
    let embedded_is : embedded 5 bytes ≡ inner = ap (λ (ps : List (List ℕ)). unwrap_or (first_of ps) []) (parts_are bytes fields read 5) in
    let name_is : text 1 (embedded 5 bytes) ≡ name = ap (λ (m : List ℕ). text 1 m) embedded_is ∙ is.name_is in
    let wire : in_event 5 inner ≡ None = wire_of_named inner name messages is are.lists in
    read_as bytes kind.Row (Row name changes) (record {
      wire = wire_is bytes fields read in_event ∙ rw wire refl;
      once = stands_alone bytes fields messages read changes_held are.once refl refl refl;
      type_is = ap kind_of (scalar_is bytes fields read 1);
      texts = ap is_utf8 name_is ∙ is_text;
      whole = ap (λ (ms : List (List ℕ)). list_any is_partial ms) changes_held ∙ are.whole;
      rows = ap first_row_fault changes_held ∙ are.rows;
      value = ap (λ (n : List ℕ). Row n (map change_of (row_changes bytes))) name_is ∙ ap (λ (cs : List ChangeValue). Row name cs) (ap (λ (ms : List (List ℕ)). map change_of ms) changes_held ∙ are.value);
    })

field_again : FieldsAreReadAgain → (name : List ℕ) (columns : List FieldValue) → is_utf8 name ≡ true → AllByRecursion IsColumn columns → length (written_event (Field name columns)) < 2 ^ 64 → event_at (written_event (Field name columns)) ≡ Ok (Field name columns)
field_again law name columns is_text is_columns short =
    let messages = map written_column columns in
    let inner = written_field_event name columns in
    let fields : List WireField = record { number = 1; value = Varint 13 } ∷ message_field 6 inner ∷ [] in
    let bytes = written_fields fields in
    let read : Reads bytes fields = reads_back law fields (with_message 13 6 inner (omega arith) (omega arith, omega arith)) short in
    let inner_short = body_short 13 6 inner short in
    let is = named law name messages inner_short in
    let are = columns_back law columns is_columns (named_short name messages inner_short) in
    let embedded_is : embedded 6 bytes ≡ inner = ap (λ (ps : List (List ℕ)). unwrap_or (first_of ps) []) (parts_are bytes fields read 6) in
    let name_is : text 1 (embedded 6 bytes) ≡ name = ap (λ (m : List ℕ). text 1 m) embedded_is ∙ is.name_is in
    let parts_held : parts 2 (embedded 6 bytes) ≡ messages = ap (λ (m : List ℕ). parts 2 m) embedded_is ∙ is.parts_are in
    let wire : in_event 6 inner ≡ None = wire_of_named inner name messages is are.lists in
    let names : list_all (λ field. is_utf8 (text 1 field)) (parts 2 (embedded 6 bytes)) ≡ true = ap (λ (ms : List (List ℕ)). list_all (λ field. is_utf8 (text 1 field)) ms) parts_held ∙ are.names in
    let texts : are_texts kind.Field bytes ≡ true = and_both (is_utf8 (text 1 (embedded 6 bytes))) (list_all (λ field. is_utf8 (text 1 field)) (parts 2 (embedded 6 bytes))) (ap is_utf8 name_is ∙ is_text) names in
    let value : event_of kind.Field bytes ≡ Field name columns = ap (λ (n : List ℕ). Field n (map column_field_of (parts 2 (embedded 6 bytes)))) name_is ∙ ap (λ (cs : List FieldValue). Field name cs) (ap (λ (ms : List (List ℕ)). map column_field_of ms) parts_held ∙ are.value) in
    read_as bytes kind.Field (Field name columns) (rowless bytes fields kind.Field (Field name columns) read (changes_are bytes fields read ∙ none_under law) (rw wire refl) refl refl refl refl texts value)

vgtid_again : FieldsAreReadAgain → (entries : List ShardGtidValue) → AllByRecursion AreTexts entries → length (written_event (Vgtid entries)) < 2 ^ 64 → event_at (written_event (Vgtid entries)) ≡ Ok (Vgtid entries)
vgtid_again law entries is_texts short =
    let messages = map written_shard_gtid entries in
    let list = message_fields 1 messages in
    let inner = written_vgtid entries in
    let fields : List WireField = record { number = 1; value = Varint 15 } ∷ message_field 7 inner ∷ [] in
    let bytes = written_fields fields in
    let read : Reads bytes fields = reads_back law fields (with_message 15 7 inner (omega arith) (omega arith, omega arith)) short in
    let inner_short = body_short 15 7 inner short in
    let inner_read : Reads inner list = reads_back law list (plain_messages 1 messages (omega arith, omega arith)) inner_short in
    let are = entries_back law entries is_texts (messages_short 1 messages inner_short) in
    let embedded_is : embedded 7 bytes ≡ inner = ap (λ (ps : List (List ℕ)). unwrap_or (first_of ps) []) (parts_are bytes fields read 7) in
    let parts_held : parts 1 (embedded 7 bytes) ≡ messages = ap (λ (m : List ℕ). parts 1 m) embedded_is ∙ parts_are inner list inner_read 1 ∙ own_parts 1 messages in
    let wire : in_event 7 inner ≡ None = wire_is inner list inner_read (in_plain 1) ∙ wire_of_messages 1 messages are.lists in
    let texts : are_texts kind.Vgtid bytes ≡ true = ap (λ (ms : List (List ℕ)). list_all are_entry_texts ms) parts_held ∙ are.texts in
    let value : event_of kind.Vgtid bytes ≡ Vgtid entries = ap (λ (es : List ShardGtidValue). Vgtid es) (ap (λ (ms : List (List ℕ)). map shard_gtid_of ms) parts_held ∙ are.value) in
    read_as bytes kind.Vgtid (Vgtid entries) (rowless bytes fields kind.Vgtid (Vgtid entries) read (changes_are bytes fields read ∙ none_under law) (rw wire refl) refl refl refl refl texts value)

abbrev alone : ℕ → List ℕ
alone number = written_fields (record { number = 1; value = Varint number } ∷ [])

pub events_back : FieldsAreReadAgain → RowsAreReadAgain → EventsAreReadAgain
events_back law rows (Gtid position) is short = gtid_again law position is short
events_back law rows Begin is short = bare law (alone 2) 2 kind.Begin Begin (reads_back law _ (one_plain 2 (omega arith)) short) refl refl refl
events_back law rows Commit is short = bare law (alone 3) 3 kind.Commit Commit (reads_back law _ (one_plain 3 (omega arith)) short) refl refl refl
events_back law rows Rollback is short = bare law (alone 4) 4 kind.Rollback Rollback (reads_back law _ (one_plain 4 (omega arith)) short) refl refl refl
events_back law rows (Row name changes) is short = row_again law rows name changes is.0 is.1 short
events_back law rows (Field name columns) is short = field_again law name columns is.0 is.1 short
events_back law rows (Vgtid entries) is short = vgtid_again law entries is short
events_back law rows (Ignored Ddl) is short = bare law (alone 5) 5 (kind.Ignored Ddl) (Ignored Ddl) (reads_back law _ (one_plain 5 (omega arith)) short) refl refl refl
events_back law rows (Ignored Other) is short = bare law (alone 11) 11 (kind.Ignored Other) (Ignored Other) (reads_back law _ (one_plain 11 (omega arith)) short) refl refl refl
events_back law rows (Ignored Heartbeat) is short = bare law (alone 14) 14 (kind.Ignored Heartbeat) (Ignored Heartbeat) (reads_back law _ (one_plain 14 (omega arith)) short) refl refl refl
events_back law rows (Ignored Version) is short = bare law (alone 17) 17 (kind.Ignored Version) (Ignored Version) (reads_back law _ (one_plain 17 (omega arith)) short) refl refl refl
events_back law rows (Ignored Savepoint) is short = bare law (alone 19) 19 (kind.Ignored Savepoint) (Ignored Savepoint) (reads_back law _ (one_plain 19 (omega arith)) short) refl refl refl
