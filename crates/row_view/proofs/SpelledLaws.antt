-- Bytes that are just what their row is written as.
use Rattle.std.proofs.Common.{◌≡◌, ℕ, ℤ, pos, negsuc, ◌+◌, ◌-◌, ◌*◌, ◌/◌, ◌%◌, ◌^◌, ◌<◌, ◌≤◌, ◌⊎◌, inl, inr, Bool, true, false, ◌&&◌, eqb, ltb, List, [], ◌∷◌, ◌++◌, map, length, take, drop, Option, None, refl, sym, ap, subst, ◌∙◌, arith}
use Rattle.std.specs.List.{filter_map, AllByRecursion}
use Rattle.std.proofs.lemmas.Bool.{eq-eqb, le-ltb}
use Rattle.std.proofs.lemmas.List.Concat.{flat_map-append}
use Rattle.std.proofs.lemmas.List.{length-take, length-drop, take-append-drop, take_rest, append-nil}
use Rattle.std.specs.Prelude.{slice_index_or}
use Rattle.proto_wire.specs.declared.fault.WireFault.{WireFault}
use Rattle.proto_wire.specs.Reading.{Reading}
use Rattle.proto_wire.specs.Varint.{varints_of, shortest}
use Rattle.proto_wire.specs.Field.{WireField, fields_of}
use Rattle.proto_wire.specs.Parts.{part_in, last_of}
use Rattle.proto_wire.specs.Zigzag.{unzigzag_of}
use Rattle.proto_wire.specs.Writing.{written_field, written_fields, written_numbers, text_field, FieldsAreReadAgain, NumbersAreReadAgain}
use Rattle.proto_wire.proofs.ShortestLaws.{within-low, within-high}
use Rattle.row_view.specs.RowFields.{lengths_of, row_lengths, row_values}
use Rattle.row_view.specs.Row.{size_of_all, columns_in, columns_over}
use Rattle.row_view.specs.WrittenRow.{length_number, written_lengths, written_values, packed_fields, is_plain, written_row}
use Rattle.row_view.specs.Private.Kept.{IsGood}
use Rattle.row_view.specs.Private.Spelled.{AreShort, IsTextOf}
use Rattle.row_view.proofs.KeptLaws.{good_short}
use Rattle.row_view.proofs.WrittenLaws.{both, lengths_held, values_held, fields_writable, packed_lengths}

-- ---- numbers of one byte and of two

shortest_one : (n : ℕ) → n < 128 → shortest n ≡ n ∷ []
unfolding shortest
shortest_one n lt = within-low 8 n lt

shortest_two : (n : ℕ) → 128 ≤ n → n < 16384 → shortest n ≡ (n % 128 + 128) ∷ (n / 128) ∷ []
unfolding shortest
shortest_two n le lt = within-high 8 n le ∙ ap (λ (w : List ℕ). (n % 128 + 128) ∷ w) (within-low 7 (n / 128) (omega arith))

short_written : (lengths : List ℕ) → AreShort lengths → written_numbers lengths ≡ lengths
short_written [] h = refl
short_written (b ∷ bs) h = rw (shortest_one b h.0.0) (ap (λ (w : List ℕ). b ∷ w) (short_written bs h.1))

short_fit : (lengths : List ℕ) → AreShort lengths → AllByRecursion (λ n. n < 2 ^ 64) lengths
short_fit [] h = tt
short_fit (b ∷ bs) h = (omega (arith, h.0.0), short_fit bs h.1)

-- ---- the lengths of a row

unzigzag_even : (b : ℕ) → b % 2 ≡ 0 → unzigzag_of b ≡ pos (b / 2)
unzigzag_even b even = let e : eqb (b % 2) 0 ≡ true = eq-eqb (b % 2) 0 even in rw e refl

-- a length takes half of its byte
pub short_size : (b : ℕ) (bs : List ℕ) → (b % 2 ≡ 0) ⊎ (b ≡ 1) → size_of_all (map unzigzag_of (b ∷ bs)) ≡ b / 2 + size_of_all (map unzigzag_of bs)
short_size b bs (inl even) = rw (unzigzag_even b even) refl
short_size b bs (inr one) = rw one refl

numbers_back : (lengths values : List ℕ) → AreShort lengths → size_of_all (map unzigzag_of lengths) ≤ length values → map length_number (columns_over values (map unzigzag_of lengths)) ≡ lengths
numbers_back [] values h within = refl
numbers_back (b ∷ bs) values h within =
    elim h.0.1 [
      | inl even ↦
          let fits : b / 2 + size_of_all (map unzigzag_of bs) ≤ length values = omega (arith, within, short_size b bs (inl even)) in
          let number : 2 * length (take (b / 2) values) ≡ b = omega (arith, length-take (b / 2) values, fits, even) in
          let others = numbers_back bs (drop (b / 2) values) h.1 (omega (arith, length-drop (b / 2) values, fits)) in
          rw (unzigzag_even b even) (ap (λ (n : ℕ). n ∷ map length_number (columns_over (drop (b / 2) values) (map unzigzag_of bs))) number ∙ ap (λ (w : List ℕ). b ∷ w) others)
      | inr one ↦
          let fits : size_of_all (map unzigzag_of bs) ≤ length values = omega (arith, within, short_size b bs (inr one)) in
          rw one (ap (λ (w : List ℕ). 1 ∷ w) (numbers_back bs values h.1 fits))
    ]

values_back : (lengths : List ℤ) (values : List ℕ) → size_of_all lengths ≡ length values → written_values (columns_over values lengths) ≡ values
values_back [] [] e = refl
values_back [] (v ∷ vs) e = absurd (omega (arith, e))
values_back (pos n ∷ ns) values e =
    ap (λ (w : List ℕ). take n values ++ w) (values_back ns (drop n values) (omega (arith, e, length-drop n values))) ∙ take-append-drop n values
values_back (negsuc n ∷ ns) values e = values_back ns values (omega (arith, e))

-- ---- a text with its head

text_one : (number tag : ℕ) → shortest (number * 8 + 2) ≡ tag ∷ [] → (text : List ℕ) → 0 < length text → length text < 128
    → written_fields (text_field number text) ≡ tag ∷ length text ∷ text
text_one number tag is [] some few = absurd (omega (arith, some))
text_one number tag is (b ∷ bytes) some few = rw (is, shortest_one (length (b ∷ bytes)) few) (ap (λ (w : List ℕ). tag ∷ length (b ∷ bytes) ∷ w) (append-nil (b ∷ bytes)))

text_two : (number tag : ℕ) → shortest (number * 8 + 2) ≡ tag ∷ [] → (text : List ℕ) → 128 ≤ length text → length text < 16384
    → written_fields (text_field number text) ≡ tag ∷ (length text % 128 + 128) ∷ (length text / 128) ∷ text
text_two number tag is [] some few = absurd (omega (arith, some))
text_two number tag is (b ∷ bytes) some few = rw (is, shortest_two (length (b ∷ bytes)) some few) (ap (λ (w : List ℕ). tag ∷ (length (b ∷ bytes) % 128 + 128) ∷ (length (b ∷ bytes) / 128) ∷ w) (append-nil (b ∷ bytes)))

front_two : (bytes : List ℕ) → 2 ≤ length bytes → bytes ≡ slice_index_or bytes 0 0 ∷ slice_index_or bytes 1 0 ∷ drop 2 bytes
front_two [] le = absurd (omega (arith, le))
front_two (a ∷ []) le = absurd (omega (arith, le))
front_two (a ∷ b ∷ bytes) le = refl

front_three : (bytes : List ℕ) → 3 ≤ length bytes → bytes ≡ slice_index_or bytes 0 0 ∷ slice_index_or bytes 1 0 ∷ slice_index_or bytes 2 0 ∷ drop 3 bytes
front_three [] le = absurd (omega (arith, le))
front_three (a ∷ []) le = absurd (omega (arith, le))
front_three (a ∷ b ∷ []) le = absurd (omega (arith, le))
front_three (a ∷ b ∷ c ∷ bytes) le = refl

-- two bytes, and what stands behind them
pub from_two : (bytes : List ℕ) (a b : ℕ) → 2 ≤ length bytes → slice_index_or bytes 0 0 ≡ a → slice_index_or bytes 1 0 ≡ b
    → bytes ≡ a ∷ b ∷ take (length bytes - 2) (drop 2 bytes)
from_two bytes a b le one two = front_two bytes le ∙ rw (one, two, take_rest bytes 2) refl

from_three : (bytes : List ℕ) (a b c : ℕ) → 3 ≤ length bytes → slice_index_or bytes 0 0 ≡ a → slice_index_or bytes 1 0 ≡ b → slice_index_or bytes 2 0 ≡ c
    → bytes ≡ a ∷ b ∷ c ∷ take (length bytes - 3) (drop 3 bytes)
from_three bytes a b c le one two three = front_three bytes le ∙ rw (one, two, three, take_rest bytes 3) refl

pub few_values : (bytes : List ℕ) (size : ℕ) → 2 ≤ length bytes → slice_index_or bytes 0 0 ≡ 18 → slice_index_or bytes 1 0 ≡ size
    → length (take (length bytes - 2) (drop 2 bytes)) ≡ size → (size ≡ 0 → ⊥) → size < 128 → IsTextOf 2 size bytes
few_values bytes size le tag low long some few =
    let values = take (length bytes - 2) (drop 2 bytes) in
    let written : written_fields (text_field 2 values) ≡ 18 ∷ length values ∷ values = text_one 2 18 (shortest_one 18 (omega arith)) values (omega (arith, some, long)) (omega (arith, few, long)) in
    record { text = values; long = long; is = from_two bytes 18 size le tag low ∙ ap (λ (n : ℕ). 18 ∷ n ∷ values) (sym long) ∙ sym written }

pub more_values : (bytes : List ℕ) (size : ℕ) → 3 ≤ length bytes → slice_index_or bytes 0 0 ≡ 18 → slice_index_or bytes 1 0 ≡ size % 128 + 128 → slice_index_or bytes 2 0 ≡ size / 128
    → length (take (length bytes - 3) (drop 3 bytes)) ≡ size → 128 ≤ size → size < 16384 → IsTextOf 2 size bytes
more_values bytes size le tag low high long some few =
    let values = take (length bytes - 3) (drop 3 bytes) in
    let written : written_fields (text_field 2 values) ≡ 18 ∷ (length values % 128 + 128) ∷ (length values / 128) ∷ values =
    text_two 2 18 (shortest_one 18 (omega arith)) values (omega (arith, some, long)) (omega (arith, few, long)) in
    record { text = values; long = long; is = from_three bytes 18 (size % 128 + 128) (size / 128) le tag low high ∙ ap (λ (n : ℕ). 18 ∷ (n % 128 + 128) ∷ (n / 128) ∷ values) (sym long) ∙ sym written }

-- ---- the row

and_false : (a : Bool) → (a && false) ≡ false
and_false true = refl
and_false false = refl

not_plain : (columns : List (Option (List ℕ))) → length (written_fields (packed_fields columns)) ≤ 2 ^ 24 → is_plain columns ≡ false
not_plain columns short =
    let e : ltb (2 ^ 24) (length (written_fields (packed_fields columns))) ≡ false = le-ltb _ _ short in
    rw e (and_false (eqb (length columns) 1))

pub as_written : FieldsAreReadAgain → NumbersAreReadAgain → (message packed field : List ℕ) (size : ℕ) → IsGood message
    → message ≡ 10 ∷ length packed ∷ (packed ++ field) → (length packed ≡ 0 → ⊥) → length packed < 128 → AreShort packed
    → size ≡ size_of_all (map unzigzag_of packed) → size < 16384 → IsTextOf 2 size field
    → message ≡ written_row (columns_in message)
as_written fields numbers message packed field size good parts some few short total small text =
    let values = text.text in
    let lengths = map unzigzag_of packed in
    let columns = columns_over values lengths in
    let sum : size_of_all lengths ≡ length values = sym total ∙ sym text.long in
    let head : written_fields (text_field 1 packed) ≡ 10 ∷ length packed ∷ packed = text_one 1 10 (shortest_one 10 (omega arith)) packed (omega (arith, some)) few in
    let written : message ≡ written_fields (both packed values) =
    parts ∙ ap (λ (w : List ℕ). w ++ field) (sym head) ∙ ap (λ (w : List ℕ). written_fields (text_field 1 packed) ++ w) text.is
    ∙ sym (flat_map-append written_field (text_field 1 packed) (text_field 2 values)) in
    let read : fields_of message ≡ record { items = both packed values; fault = None } =
    ap fields_of written ∙ fields (both packed values) (fields_writable packed values (omega (arith, few)) (omega (arith, small, text.long))) in
    let nil : varints_of [] ≡ record { items = []; fault = None } = numbers [] tt in
    let held : varints_of packed ≡ record { items = packed; fault = None } = ap varints_of (sym (short_written packed short)) ∙ numbers packed (short_fit packed short) in
    let lengths_are : row_lengths message ≡ lengths = ap (λ (r : Reading WireField WireFault). lengths_of r.items) read ∙ lengths_held packed values packed nil held in
    let values_are : row_values message ≡ values = ap (λ (r : Reading WireField WireFault). last_of [] (filter_map (part_in 2) r.items)) read ∙ values_held packed values in
    let columns_are : columns_in message ≡ columns = ap (λ (v : List ℕ). columns_over v (row_lengths message)) values_are ∙ ap (λ (ns : List ℤ). columns_over values ns) lengths_are in
    let lengths_back : written_lengths columns ≡ packed = ap written_numbers (numbers_back packed values short (omega (arith, sum))) ∙ short_written packed short in
    let values_back : written_values columns ≡ values = values_back lengths values sum in
    let fields_are : packed_fields columns ≡ both packed values = ap (λ (w : List ℕ). both w (written_values columns)) lengths_back ∙ ap (λ (w : List ℕ). both packed w) values_back in
    let whole : message ≡ written_fields (packed_fields columns) = written ∙ sym (ap written_fields fields_are) in
    let fits : length (written_fields (packed_fields columns)) ≤ 2 ^ 24 = subst (λ (w : List ℕ). length w ≤ 2 ^ 24) whole (good_short message good) in
    let packed_are = packed_lengths columns (not_plain columns fits) in
    whole ∙ sym (ap (λ (fs : List WireField). written_fields (fs ++ text_field 2 (written_values columns))) packed_are) ∙ ap written_row (sym columns_are)
