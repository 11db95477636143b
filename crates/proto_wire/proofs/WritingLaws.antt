-- What is written is read again.
use Rattle.std.proofs.Common.{◌≡◌, ℕ, ◌+◌, ◌*◌, ◌^◌, ◌<◌, ◌≤◌, List, [], ◌∷◌, ◌++◌, length, None, refl, ap, ◌∙◌, append_assoc, arith}
use Rattle.std.specs.List.{AllByRecursion}
use Rattle.proto_wire.specs.Reading.{Spells}
use Rattle.proto_wire.specs.Varint.{IsVarint, NoVarint, varint_at, shortest}
use Rattle.proto_wire.specs.Field.{WireValue, Varint, Eight, Bytes, Four, WireField, wire_type, IsPayload, IsField, NoField, field_at}
use Rattle.proto_wire.specs.Writing.{written_payload, written_field, written_fields, written_numbers, IsReadable, IsWritable, FieldsAreReadAgain, NumbersAreReadAgain, Begins}
use Rattle.proto_wire.proofs.ReadingLaws.{only_reading}
use Rattle.proto_wire.proofs.VarintLaws.{varint_reader}
use Rattle.proto_wire.proofs.FieldLaws.{field_reader}
use Rattle.proto_wire.proofs.ShortestLaws.{shortest_is_varint}

-- ---- one field

is_payload : (value : WireValue) → IsReadable value → IsPayload (written_payload value) value
is_payload (Varint n) fits = shortest_is_varint n fits
is_payload (Eight b) long = (refl, long)
is_payload (Bytes b) fits = (shortest (length b), shortest_is_varint (length b) fits, refl)
is_payload (Four b) long = (refl, long)

wire_type_few : (value : WireValue) → wire_type value ≤ 5
wire_type_few (Varint n) = omega arith
wire_type_few (Eight b) = omega arith
wire_type_few (Bytes b) = omega arith
wire_type_few (Four b) = omega arith

pub is_field : (f : WireField) → IsWritable f → IsField (written_field f) f
is_field f fits =
    let tag : f.number * 8 + wire_type f.value < 2 ^ 64 = omega (arith, fits.number.1, wire_type_few f.value) in
    (shortest (f.number * 8 + wire_type f.value), written_payload f.value, refl, fits.number, shortest_is_varint _ tag, is_payload f.value fits.payload)

-- ---- one after another

spells_fields : (fields : List WireField) → AllByRecursion IsWritable fields → Spells IsField NoField (written_fields fields) fields None
spells_fields [] fits = refl
spells_fields (f ∷ fs) fits = (written_field f, written_fields fs, refl, is_field f fits.0, spells_fields fs fits.1)

pub fields_read_again : FieldsAreReadAgain
fields_read_again fields fits = only_reading IsField NoField field_at field_reader (written_fields fields) fields None (spells_fields fields fits)

spells_numbers : (numbers : List ℕ) → AllByRecursion (λ n. n < 2 ^ 64) numbers → Spells IsVarint NoVarint (written_numbers numbers) numbers None
spells_numbers [] fits = refl
spells_numbers (n ∷ ns) fits = (shortest n, written_numbers ns, refl, shortest_is_varint n fits.0, spells_numbers ns fits.1)

pub numbers_read_again : NumbersAreReadAgain
numbers_read_again numbers fits = only_reading IsVarint NoVarint varint_at varint_reader (written_numbers numbers) numbers None (spells_numbers numbers fits)

-- ---- what a call leaves

pub begins_with : (old new bytes : List ℕ) → new ≡ old ++ bytes → Begins old new
begins_with old new bytes e = record { more = bytes; is = e }

pub begins_behind : (a b c : List ℕ) → Begins a b → Begins b c → Begins a c
begins_behind a b c one two = record { more = one.more ++ two.more; is = two.is ∙ ap (λ (w : List ℕ). w ++ two.more) one.is ∙ append_assoc a one.more two.more }
