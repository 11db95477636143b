-- What a message of written fields holds.
use Rattle.std.proofs.Common.{◌≡◌, ℕ, ◌+◌, ◌*◌, ◌^◌, ◌<◌, true, false, eqb, List, [], ◌∷◌, ◌++◌, length, Option, Some, None, refl, ap, ◌∙◌, arith}
use Rattle.std.specs.List.{filter_map, AllByRecursion}
use Rattle.std.specs.Option.{option_or}
use Rattle.std.proofs.lemmas.Bool.{eq-eqb}
use Rattle.std.proofs.lemmas.List.{length-append}
use Rattle.std.proofs.lemmas.List.Concat.{flat_map-append}
use Rattle.proto_wire.specs.declared.fault.WireFault.{WireFault}
use Rattle.proto_wire.specs.Reading.{Reading}
use Rattle.proto_wire.specs.Varint.{shortest}
use Rattle.proto_wire.specs.Field.{WireValue, Varint, Eight, Bytes, Four, WireField, wire_type, IsFieldNumber, fields_of}
use Rattle.proto_wire.specs.Parts.{part_in, count_in, last_of, text, scalar, parts}
use Rattle.proto_wire.specs.Writing.{written_payload, written_field, written_fields, text_field, message_field, IsReadable, IsWritable, FieldsAreReadAgain}
use Rattle.vevent.specs.Fault.{first_in, wire_fault_by, in_plain}
use Rattle.vevent.specs.WrittenEvent.{message_fields}

-- ---- fields that can be read, where their whole is short

-- a payload, however long its bytes
abbrev pub IsPlain : WireValue → Type 0
IsPlain (Varint n) = n < 2 ^ 64
IsPlain (Eight b) = length b ≡ 8
IsPlain (Bytes b) = Unit {0}
IsPlain (Four b) = length b ≡ 4

pub record IsPlainField (f : WireField) : Type 0 where
  pub number : IsFieldNumber f.number
  pub payload : IsPlain f.value

abbrev pub ArePlain : List WireField → Type 0
ArePlain fields = AllByRecursion IsPlainField fields

readable : (value : WireValue) → IsPlain value → length (written_payload value) < 2 ^ 64 → IsReadable value
readable (Varint n) plain short = plain
readable (Eight b) plain short = plain
readable (Bytes b) plain short = omega (arith, length-append (shortest (length b)) b, short)
readable (Four b) plain short = plain

-- each of several parts is as short as all
first_short : (xs ys : List ℕ) → length (xs ++ ys) < 2 ^ 64 → length xs < 2 ^ 64
first_short xs ys short = omega (arith, length-append xs ys, short)

rest_short : (xs ys : List ℕ) → length (xs ++ ys) < 2 ^ 64 → length ys < 2 ^ 64
rest_short xs ys short = omega (arith, length-append xs ys, short)

writable : (fields : List WireField) → ArePlain fields → length (written_fields fields) < 2 ^ 64 → AllByRecursion IsWritable fields
writable [] plain short = tt
writable (f ∷ fs) plain short =
    let here = first_short (written_field f) (written_fields fs) short in
    let payload = rest_short (shortest (f.number * 8 + wire_type f.value)) (written_payload f.value) here in
    (record { number = plain.0.number; payload = readable f.value plain.0.payload payload }, writable fs plain.1 (rest_short (written_field f) (written_fields fs) short))

-- the bytes are these fields and nothing else
abbrev pub Reads : List ℕ → List WireField → Type 0
Reads bytes fields = fields_of bytes ≡ record { items = fields; fault = None }

pub reads_back : FieldsAreReadAgain → (fields : List WireField) → ArePlain fields → length (written_fields fields) < 2 ^ 64 → Reads (written_fields fields) fields
reads_back law fields plain short = law fields (writable fields plain short)

-- ---- what is found by number

pub parts_are : (bytes : List ℕ) (fields : List WireField) → Reads bytes fields → (number : ℕ) → parts number bytes ≡ filter_map (part_in number) fields
parts_are bytes fields read number = ap (λ (r : Reading WireField WireFault). filter_map (part_in number) r.items) read

pub text_is : (bytes : List ℕ) (fields : List WireField) → Reads bytes fields → (number : ℕ) → text number bytes ≡ last_of [] (filter_map (part_in number) fields)
text_is bytes fields read number = ap (λ (ps : List (List ℕ)). last_of [] ps) (parts_are bytes fields read number)

pub scalar_is : (bytes : List ℕ) (fields : List WireField) → Reads bytes fields → (number : ℕ) → scalar number bytes ≡ last_of 0 (filter_map (count_in number) fields)
scalar_is bytes fields read number = ap (λ (r : Reading WireField WireFault). last_of 0 (filter_map (count_in number) r.items)) read

pub end_is : (bytes : List ℕ) (fields : List WireField) → Reads bytes fields → (fields_of bytes).fault ≡ None
end_is bytes fields read = ap (λ (r : Reading WireField WireFault). r.fault) read

pub wire_is : (bytes : List ℕ) (fields : List WireField) → Reads bytes fields → (inside : ℕ → List ℕ → Option WireFault) → wire_fault_by inside bytes ≡ first_in inside fields None
wire_is bytes fields read inside = ap (λ (r : Reading WireField WireFault). first_in inside r.items r.fault) read

-- ---- texts

pub plain_text : (number : ℕ) (t : List ℕ) → IsFieldNumber number → ArePlain (text_field number t)
plain_text number [] is = tt
plain_text number (b ∷ bytes) is = (record { number = is; payload = tt }, tt)

pub plain_both : (xs ys : List WireField) → ArePlain xs → ArePlain ys → ArePlain (xs ++ ys)
plain_both [] ys h k = k
plain_both (x ∷ xs) ys h k = (h.0, plain_both xs ys h.1 k)

-- ---- messages under one number

pub own_parts : (number : ℕ) (messages : List (List ℕ)) → filter_map (part_in number) (message_fields number messages) ≡ messages
own_parts number [] = refl
own_parts number (m ∷ ms) = let same : eqb number number ≡ true = eq-eqb number number refl in rw same (ap (λ (xs : List (List ℕ)). m ∷ xs) (own_parts number ms))

pub other_parts : (number wanted : ℕ) (messages : List (List ℕ)) → eqb number wanted ≡ false → filter_map (part_in wanted) (message_fields number messages) ≡ []
other_parts number wanted [] other = refl
other_parts number wanted (m ∷ ms) other = rw other (other_parts number wanted ms other)

pub plain_messages : (number : ℕ) (messages : List (List ℕ)) → IsFieldNumber number → ArePlain (message_fields number messages)
plain_messages number [] is = tt
plain_messages number (m ∷ ms) is = (record { number = is; payload = tt }, plain_messages number ms is)

pub message_short : (number : ℕ) (message : List ℕ) → length (written_field (message_field number message)) < 2 ^ 64 → length message < 2 ^ 64
message_short number message short = rest_short (shortest (length message)) message (rest_short (shortest (number * 8 + 2)) (shortest (length message) ++ message) short)

pub messages_short : (number : ℕ) (messages : List (List ℕ)) → length (written_fields (message_fields number messages)) < 2 ^ 64 → AllByRecursion (λ m. length m < 2 ^ 64) messages
messages_short number [] short = tt
messages_short number (m ∷ ms) short =
    let front = written_field (message_field number m) in
    let rest = written_fields (message_fields number ms) in
    (message_short number m (first_short front rest short), messages_short number ms (rest_short front rest short))

abbrev pub AreLists : List (List ℕ) → Type 0
AreLists messages = AllByRecursion (λ m. (fields_of m).fault ≡ None) messages

pub or_none : {F : Type 0} (a b : Option F) → a ≡ None → b ≡ None → option_or a b ≡ None
or_none None b e h = h
or_none (Some f) b e h = absurd cc

plain_inside : (number : ℕ) (m : List ℕ) → (fields_of m).fault ≡ None → in_plain number number m ≡ None
plain_inside number m list = let same : eqb number number ≡ true = eq-eqb number number refl in rw same list

pub wire_of_messages : (number : ℕ) (messages : List (List ℕ)) → AreLists messages → first_in (in_plain number) (message_fields number messages) None ≡ None
wire_of_messages number [] lists = refl
wire_of_messages number (m ∷ ms) lists = or_none (in_plain number number m) (first_in (in_plain number) (message_fields number ms) None) (plain_inside number m lists.0) (wire_of_messages number ms lists.1)

-- ---- a name, and messages under 2

abbrev pub named_fields : List ℕ → List (List ℕ) → List WireField
named_fields name messages = text_field 1 name ++ message_fields 2 messages

named_name : (name : List ℕ) (messages : List (List ℕ)) → last_of [] (filter_map (part_in 1) (named_fields name messages)) ≡ name
named_name [] ms = ap (λ (ps : List (List ℕ)). last_of [] ps) (other_parts 2 1 ms refl)
named_name (b ∷ bs) ms = ap (λ (ps : List (List ℕ)). last_of (b ∷ bs) ps) (other_parts 2 1 ms refl)

named_parts : (name : List ℕ) (messages : List (List ℕ)) → filter_map (part_in 2) (named_fields name messages) ≡ messages
named_parts [] ms = own_parts 2 ms
named_parts (b ∷ bs) ms = own_parts 2 ms

named_wire : (name : List ℕ) (messages : List (List ℕ)) → AreLists messages → first_in (in_plain 2) (named_fields name messages) None ≡ None
named_wire [] ms lists = wire_of_messages 2 ms lists
named_wire (b ∷ bs) ms lists = wire_of_messages 2 ms lists

-- the bytes are a message of this name and these messages
pub record IsNamed (bytes name : List ℕ) (messages : List (List ℕ)) : Type 0 where
  pub read : Reads bytes (named_fields name messages)
  pub name_is : text 1 bytes ≡ name
  pub parts_are : parts 2 bytes ≡ messages

pub named : FieldsAreReadAgain → (name : List ℕ) (messages : List (List ℕ)) → length (written_fields (named_fields name messages)) < 2 ^ 64 → IsNamed (written_fields (named_fields name messages)) name messages
named law name messages short =
    let fields = named_fields name messages in
    let bytes = written_fields fields in
    let plain = plain_both (text_field 1 name) (message_fields 2 messages) (plain_text 1 name (omega arith, omega arith)) (plain_messages 2 messages (omega arith, omega arith)) in
    let read : Reads bytes fields = reads_back law fields plain short in
    record {
      read = read;
      name_is = text_is bytes fields read 1 ∙ named_name name messages;
      parts_are = parts_are bytes fields read 2 ∙ named_parts name messages;
    }

pub wire_of_named : (bytes name : List ℕ) (messages : List (List ℕ)) → IsNamed bytes name messages → AreLists messages → wire_fault_by (in_plain 2) bytes ≡ None
wire_of_named bytes name messages h lists = wire_is bytes (named_fields name messages) h.read (in_plain 2) ∙ named_wire name messages lists

-- the messages in it are short where it is
pub named_short : (name : List ℕ) (messages : List (List ℕ)) → length (written_fields (named_fields name messages)) < 2 ^ 64 → AllByRecursion (λ m. length m < 2 ^ 64) messages
named_short name messages short =
    let front = written_fields (text_field 1 name) in
    let rest = written_fields (message_fields 2 messages) in
    let split : written_fields (named_fields name messages) ≡ front ++ rest = flat_map-append written_field (text_field 1 name) (message_fields 2 messages) in
    messages_short 2 messages (rest_short front rest (omega (arith, ap length split, short)))
