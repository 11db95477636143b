-- One number and one field further on in the bytes.
use Rattle.std.proofs.Common.{◌≡◌, ◌≢◌, ℕ, ℤ, ◌+◌, ◌<◌, ◌≤◌, Bool, true, false, eqb, List, [], ◌∷◌, ◌++◌, map, length, Option, Some, None, Ok, Err, refl, sym, ap, subst, ◌∙◌, append_assoc, length-append, arith}
use denote.Ref.{Bor}
use Rattle.std.specs.Prelude.{◌==◌, if◌then◌else◌}
use Rattle.std.specs.Option.{option_or}
use Rattle.std.specs.List.{filter_map, cons_option}
use Rattle.std.proofs.lemmas.Bool.{ne_eqb}
use Rattle.proto_wire.specs.declared.fault.WireFault.{WireFault}
use Rattle.proto_wire.specs.Reading.{Reading}
use Rattle.proto_wire.specs.Varint.{varint_at, varints_of}
use Rattle.proto_wire.specs.declared.field.Payload.{Payload}
use Rattle.proto_wire.specs.declared.field.Payload.TheVariants as payload
use Rattle.proto_wire.specs.declared.field.Field.{Field}
use Rattle.proto_wire.specs.Field.{WireField, WireValue, Varint, Eight, Bytes, Four, wire_value, wire_field, IsField, IsPayload, field_at, fields_of}
use Rattle.proto_wire.specs.Parts.{bytes_in, part_in, first_of, last_of}
use Rattle.proto_wire.specs.Zigzag.{unzigzag_of, sint64_at}
use Rattle.proto_wire.specs.Sint64s.{sint64s_in, sint64s_at}
use Rattle.proto_wire.proofs.ReadingLaws.{reading-none, reading-first, reading-fault}
use Rattle.proto_wire.proofs.VarintLaws.{varint_takes, varint_found}
use Rattle.proto_wire.proofs.FieldLaws.{field_takes, field_reader}
use Rattle.proto_wire.proofs.Sint64Laws.{sint64_found}
use Rattle.row_view.specs.declared.count.Count.{Count}
use Rattle.row_view.specs.declared.marks.Mark.{Mark}
use Rattle.row_view.specs.RowFields.{lengths_of, packed_fault_in, packed_fault_at, fault_of}
use Rattle.row_view.specs.Private.Marks.{EndsIn, lengths_left}
use Rattle.row_view.specs.Private.Counted.{IsCounted, IsRead, IsFound}
use Rattle.row_view.proofs.FoundLaws.{fault_of-next}

-- ---- a number of a packed part

pub record NumberAhead (packed rest : List ℕ) (n : ℤ) : Type 0 where
  pub front : List ℕ
  pub is : packed ≡ front ++ rest
  pub shorter : length rest < length packed
  pub left : (fields : List ℕ) → lengths_left packed fields ≡ n ∷ lengths_left rest fields
  pub fault : (varints_of rest).fault ≡ (varints_of packed).fault

varint_ahead : (packed rest : List ℕ) (n : ℕ) → varint_at packed ≡ Ok (n, rest) → NumberAhead packed rest (unzigzag_of n)
varint_ahead packed rest n e =
    let first : varints_of packed ≡ record { items = n ∷ (varints_of rest).items; fault = (varints_of rest).fault } = reading-first varint_at varint_takes packed (n, rest) e in
    let found = varint_found packed (n, rest) e in
    record {
      front = found.0;
      is = found.1;
      shorter = varint_takes.shorter packed (n, rest) e;
      left = λ fields. ap (λ (r : Reading ℕ WireFault). map unzigzag_of r.items ++ lengths_of (fields_of fields).items) first;
      fault = sym (ap (λ (r : Reading ℕ WireFault). r.fault) first);
    }

pub number_ahead : (packed rest : List ℕ) (n : ℤ) → sint64_at packed ≡ Ok (n, rest) → NumberAhead packed rest n
number_ahead packed rest n e =
    let read = sint64_found packed (n, rest) e in
    subst (NumberAhead packed rest) read.2 (varint_ahead packed rest read.0 read.1)

pub no_numbers : (fields : List ℕ) → lengths_left [] fields ≡ lengths_of (fields_of fields).items
no_numbers fields = ap (λ (r : Reading ℕ WireFault). map unzigzag_of r.items ++ lengths_of (fields_of fields).items) (reading-none varint_at)

pub no_number_fault : (varints_of []).fault ≡ None
no_number_fault = ap (λ (r : Reading ℕ WireFault). r.fault) (reading-none varint_at)

-- ---- a field

pub record FieldAhead (bytes after : List ℕ) (f : WireField) : Type 0 where
  pub front : List ℕ
  pub is : bytes ≡ front ++ after
  pub shorter : length after < length bytes
  pub items : (fields_of bytes).items ≡ f ∷ (fields_of after).items
  pub fault : (fields_of bytes).fault ≡ (fields_of after).fault
  -- what the field holds stands at its end
  pub holds : (b : List ℕ) → f.value ≡ Bytes b → (before : List ℕ) × (front ≡ before ++ b)

payload_end : (body : List ℕ) (v : WireValue) (b : List ℕ) → IsPayload body v → v ≡ Bytes b → (size : List ℕ) × (body ≡ size ++ b)
payload_end body v b is e =
    let bytes : IsPayload body (Bytes b) = subst (λ (w : WireValue). IsPayload body w) e is in
    (bytes.0, bytes.2)

field_end : (front : List ℕ) (f : WireField) (b : List ℕ) → IsField front f → f.value ≡ Bytes b → (before : List ℕ) × (front ≡ before ++ b)
field_end front f b (tag, body, parts, number, varint, held) e =
    let last = payload_end body f.value b held e in
    (tag ++ last.0, parts ∙ ap (λ (w : List ℕ). tag ++ w) last.1 ∙ sym (append_assoc tag last.0 b))

pub field_ahead : (bytes after : List ℕ) (f : WireField) → field_at bytes ≡ Ok (f, after) → FieldAhead bytes after f
field_ahead bytes after f e =
    let first : fields_of bytes ≡ record { items = f ∷ (fields_of after).items; fault = (fields_of after).fault } = reading-first field_at field_takes bytes (f, after) e in
    let found = field_reader.found bytes (f, after) e in
    record {
      front = found.0;
      is = found.1;
      shorter = field_takes.shorter bytes (f, after) e;
      items = ap (λ (r : Reading WireField WireFault). r.items) first;
      fault = ap (λ (r : Reading WireField WireFault). r.fault) first;
      holds = λ b h. field_end found.0 f b found.2 h;
    }

pub no_fields : fields_of [] ≡ record { items = []; fault = None }
no_fields = reading-none field_at

-- the lengths that are left, by the field
pub field_lengths : (bytes after : List ℕ) (f : WireField) → FieldAhead bytes after f → lengths_of (fields_of bytes).items ≡ sint64s_at 1 f ++ lengths_of (fields_of after).items
field_lengths bytes after f ahead = ap lengths_of ahead.items

-- what a field holds, and the fields behind it, end the message
pub ends_in_field : (message bytes after b : List ℕ) (f : WireField) → EndsIn message [] bytes → FieldAhead bytes after f → f.value ≡ Bytes b → EndsIn message b after
ends_in_field message bytes after b f ends ahead e =
    let last = ahead.holds b e in
    record {
      front = ends.front ++ last.0;
      is = ends.is ∙ ap (λ (w : List ℕ). ends.front ++ w) (ahead.is ∙ ap (λ (w : List ℕ). w ++ after) last.1 ∙ append_assoc last.0 b after) ∙ sym (append_assoc ends.front last.0 (b ++ after));
    }

-- how much shorter the bytes behind what a field holds are
pub field_long : (bytes after b : List ℕ) (f : WireField) → FieldAhead bytes after f → f.value ≡ Bytes b → length b + length after ≤ length bytes
field_long bytes after b f ahead e =
    let last = ahead.holds b e in
    let whole : length bytes ≡ length (ahead.front ++ after) = ap length ahead.is in
    let front : length ahead.front ≡ length (last.0 ++ b) = ap length last.1 in
    omega (arith, whole, front, length-append ahead.front after, length-append last.0 b)

-- ---- what one field says

pub at_packed : (f : WireField) (b : List ℕ) → f.number ≡ 1 → f.value ≡ Bytes b → sint64s_at 1 f ≡ map unzigzag_of (varints_of b).items
at_packed f b number value = rw (number, value) refl

pub at_single : (f : WireField) (n : ℕ) → f.number ≡ 1 → f.value ≡ Varint n → (sint64s_at 1 f ≡ unzigzag_of n ∷ []) × (packed_fault_at f ≡ None)
at_single f n number value = (rw (number, value) refl, rw (number, value) refl)

if_same : {A : Type 0} (test : Bool) (x d : A) → x ≡ d → (if test then x else d) ≡ d
if_same true x d e = e
if_same false x d e = refl

none_in : (p : Payload) → ((n : ℕ) → p ≡ payload.Varint n → ⊥) → ((b : Bor (List ℕ)) → p ≡ payload.Bytes b → ⊥) → (sint64s_in (wire_value p) ≡ []) × (packed_fault_in (wire_value p) ≡ None)
none_in (payload.Varint n) no_varint no_bytes = absurd (no_varint n refl)
none_in (payload.Bytes b) no_varint no_bytes = absurd (no_bytes b refl)
none_in (payload.Eight b) no_varint no_bytes = (refl, refl)
none_in (payload.Four b) no_varint no_bytes = (refl, refl)

-- a field of another wire type has no lengths
pub at_other_type : (f : Field) → ((n : ℕ) → f.payload ≡ payload.Varint n → ⊥) → ((b : Bor (List ℕ)) → f.payload ≡ payload.Bytes b → ⊥) → (sint64s_at 1 (wire_field f) ≡ []) × (packed_fault_at (wire_field f) ≡ None)
at_other_type f no_varint no_bytes =
    let none = none_in f.payload no_varint no_bytes in
    (if_same (f.number == 1) (sint64s_in (wire_value f.payload)) [] none.0, if_same (f.number == 1) (packed_fault_in (wire_value f.payload)) None none.1)

-- nor has a field of another number
pub at_other_number : (f : WireField) → (f.number ≡ 1 → ⊥) → (sint64s_at 1 f ≡ []) × (packed_fault_at f ≡ None)
at_other_number f ne = let other : eqb f.number 1 ≡ false = ne_eqb f.number 1 ne in (rw other refl, rw other refl)

-- the lengths that are left, past a field that has these
pub left_behind : (message rest after : List ℕ) (f : WireField) (ns : List ℤ) (count : Count) (marks : List Mark) → FieldAhead rest after f → sint64s_at 1 f ≡ ns
    → IsCounted message (lengths_of (fields_of rest).items) count marks → IsCounted message (ns ++ lengths_of (fields_of after).items) count marks
left_behind message rest after f ns count marks ahead has counted =
    subst (λ (left : List ℤ). IsCounted message left count marks) (field_lengths rest after f ahead ∙ ap (λ (xs : List ℤ). xs ++ lengths_of (fields_of after).items) has) counted

-- ---- faults

pub broken_here : (rest : List ℕ) (fault : WireFault) → rest ≢ [] → field_at rest ≡ Err fault → fault_of (fields_of rest) ≡ Some fault
broken_here rest fault some e = ap fault_of (reading-fault field_at rest fault some e)

pub packed_here : (rest after : List ℕ) (f : WireField) (fault : WireFault) → FieldAhead rest after f → packed_fault_at f ≡ Some fault → fault_of (fields_of rest) ≡ Some fault
packed_here rest after f fault ahead e =
    ap (λ (fs : List WireField). option_or (first_of (filter_map packed_fault_at fs)) (fields_of rest).fault) ahead.items
    ∙ ap (λ (o : Option WireFault). option_or (first_of (cons_option o (filter_map packed_fault_at (fields_of after).items))) (fields_of rest).fault) e

-- ---- values

bytes_in_is : (v : WireValue) (b : List ℕ) → Some b ≡ bytes_in v → v ≡ Bytes b
bytes_in_is (Varint n) b e = absurd cc
bytes_in_is (Eight x) b e = absurd cc
bytes_in_is (Bytes x) b e = let same : b ≡ x = cc in ap Bytes (sym same)
bytes_in_is (Four x) b e = absurd cc

part_is : (test : Bool) (v : WireValue) (b : List ℕ) → Some b ≡ (if test then bytes_in v else None) → v ≡ Bytes b
part_is true v b e = bytes_in_is v b e
part_is false v b e = absurd cc

pub last_here : (rest after last values : List ℕ) (f : WireField) → FieldAhead rest after f → Some last ≡ part_in 2 f
    → (last_of last (filter_map (part_in 2) (fields_of after).items) ≡ last_of values (filter_map (part_in 2) (fields_of rest).items)) × (length last ≤ length rest)
last_here rest after last values f ahead e =
    let more = filter_map (part_in 2) (fields_of after).items in
    let here : last_of values (filter_map (part_in 2) (fields_of rest).items) ≡ last_of values (cons_option (part_in 2 f) more) = ap (λ (fs : List WireField). last_of values (filter_map (part_in 2) fs)) ahead.items in
    let with_last : last_of values (cons_option (part_in 2 f) more) ≡ last_of last more = ap (λ (o : Option (List ℕ)). last_of values (cons_option o more)) (sym e) in
    let long = field_long rest after last f ahead (part_is (f.number == 2) f.value last e) in
    (sym (here ∙ with_last), omega (arith, long))

-- ---- a field is read

pub read_on : (message rest after values last : List ℕ) (f : WireField) (old new : Count) (before marks : List Mark) → IsRead message rest values old before → FieldAhead rest after f → packed_fault_at f ≡ None
    → last_of last (filter_map (part_in 2) (fields_of after).items) ≡ last_of values (filter_map (part_in 2) (fields_of rest).items) → length last ≤ length message
    → new.columns + length after ≤ length message → IsCounted message (lengths_of (fields_of after).items) new marks → IsRead message after last new marks
read_on message rest after values last f old new before marks read ahead none same short few counted = record {
  front = read.front ++ ahead.front;
  is = read.is ∙ ap (λ (w : List ℕ). read.front ++ w) ahead.is ∙ sym (append_assoc read.front ahead.front after);
  fault = fault_of-next (fields_of rest) (fields_of after) f ahead.items ahead.fault none ∙ read.fault;
  values_are = same ∙ read.values_are;
  short = short;
  few = few;
  counted = counted;
}

pub read_whole : (message rest values : List ℕ) (count : Count) (marks : List Mark) → IsRead message rest values count marks → rest ≡ [] → IsFound message values count marks
read_whole message rest values count marks read none =
    let ended : fields_of rest ≡ record { items = []; fault = None } = ap fields_of none ∙ no_fields in
    record {
      whole = sym read.fault ∙ ap fault_of ended;
      values_are = sym (ap (λ (r : Reading WireField WireFault). last_of values (filter_map (part_in 2) r.items)) ended) ∙ read.values_are;
      short = read.short;
      counted = subst (λ (left : List ℤ). IsCounted message left count marks) (ap (λ (r : Reading WireField WireFault). lengths_of r.items) ended) read.counted;
    }
