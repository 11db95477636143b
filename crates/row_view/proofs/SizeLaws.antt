-- How long numbers, lengths and texts are as they are written, and that fields are no longer so than as they were read.
use Rattle.std.proofs.Common.{◌≡◌, ℕ, zero, suc, ℤ, ◌+◌, ◌*◌, ◌/◌, ◌%◌, ◌<◌, ◌≤◌, inl, inr, Bool, true, false, eqb, List, [], ◌∷◌, ◌++◌, map, length, Option, Some, None, refl, ap, subst, ◌∙◌, length-append, arith}
use Rattle.std.specs.List.{filter_map, cons_option}
use Rattle.std.proofs.lemmas.Bool.{eq-eqb, ne_eqb, eqb-true, cases_lt}
use Rattle.proto_wire.specs.declared.fault.WireFault.{WireFault}
use Rattle.proto_wire.specs.Reading.{Spells}
use Rattle.proto_wire.specs.Varint.{IsVarint, NoVarint, AreBytes, varint_at, varints_of, shortest_within, shortest}
use Rattle.proto_wire.specs.Field.{WireField, WireValue, Varint, Eight, Bytes, Four, wire_type, IsField, NoField, IsPayload, field_at, fields_of}
use Rattle.proto_wire.specs.Parts.{part_in, last_of}
use Rattle.proto_wire.specs.Sint64s.{sint64s_at, sint64s_of}
use Rattle.proto_wire.specs.Zigzag.{zigzag_of, unzigzag_of}
use Rattle.proto_wire.proofs.ReadingLaws.{spells-reading}
use Rattle.proto_wire.proofs.VarintLaws.{varint_reader}
use Rattle.proto_wire.proofs.FieldLaws.{field_reader}
use Rattle.proto_wire.proofs.ShortestLaws.{within-low, within-high, within-zero, shortest_is_least}
use Rattle.row_view.specs.RowFields.{row_lengths, row_values}

-- ---- of a number

-- how many bytes a number has
abbrev pub size : ℕ → ℕ
size n = length (shortest n)

within_some : (more n : ℕ) → 1 ≤ length (shortest_within more n)
within_some zero n = rw (within-zero n) (omega arith)
within_some (suc more) n =
    elim (cases_lt n 128) [
      | inl low ↦ rw (within-low more n low) (omega arith)
      | inr high ↦ rw (within-high more n high) (omega arith)
    ]

within_most : (more n : ℕ) → length (shortest_within more n) ≤ suc more
within_most zero n = rw (within-zero n) (omega arith)
within_most (suc more) n =
    elim (cases_lt n 128) [
      | inl low ↦ rw (within-low more n low) (omega arith)
      | inr high ↦ let rest = within_most more (n / 128) in rw (within-high more n high) (omega (arith, rest))
    ]

within_more : (more m n : ℕ) → m ≤ n → length (shortest_within more m) ≤ length (shortest_within more n)
within_more zero m n le = rw (within-zero m, within-zero n) (omega arith)
within_more (suc more) m n le =
    elim (cases_lt m 128) [
      | inl low ↦ let some = within_some (suc more) n in rw (within-low more m low) (omega (arith, some))
      | inr high ↦ let rest = within_more more (m / 128) (n / 128) (omega (arith, le)) in
          rw (within-high more m high, within-high more n (omega (arith, le, high))) (omega (arith, rest))
    ]

pub size_some : (n : ℕ) → 1 ≤ size n
unfolding shortest
size_some n = within_some 9 n

pub size_most : (n : ℕ) → size n ≤ 10
unfolding shortest
size_most n = within_most 9 n

pub size_more : (m n : ℕ) → m ≤ n → size m ≤ size n
unfolding shortest
size_more m n le = within_more 9 m n le

pub size_one : (n : ℕ) → n < 128 → size n ≡ 1
unfolding shortest
size_one n low = ap length (within-low 8 n low)

pub size_two : (n : ℕ) → n < 16384 → size n ≤ 2
unfolding shortest
size_two n lt =
    elim (cases_lt n 128) [
      | inl low ↦ rw (within-low 8 n low) (omega arith)
      | inr high ↦ rw (within-high 8 n high, within-low 7 (n / 128) (omega (arith, lt))) (omega arith)
    ]

-- ---- of lengths and of a text

-- how many bytes these lengths have one after another
abbrev pub numbers_size : List ℤ → ℕ
numbers_size [] = 0
numbers_size (z ∷ zs) = size (zigzag_of z) + numbers_size zs

pub numbers_most : (zs : List ℤ) → numbers_size zs ≤ 10 * length zs
numbers_most [] = omega arith
numbers_most (z ∷ zs) = let rest = numbers_most zs in let one = size_most (zigzag_of z) in omega (arith, rest, one)

pub numbers_some : (zs : List ℤ) → length zs ≤ numbers_size zs
numbers_some [] = omega arith
numbers_some (z ∷ zs) = let rest = numbers_some zs in let one = size_some (zigzag_of z) in omega (arith, rest, one)

pub numbers_append : (xs ys : List ℤ) → numbers_size (xs ++ ys) ≡ numbers_size xs + numbers_size ys
numbers_append [] ys = omega arith
numbers_append (x ∷ xs) ys = let rest = numbers_append xs ys in omega (arith, rest)

-- how many bytes the field of a text of so many bytes has: none where it is empty
abbrev pub text_size : ℕ → ℕ
text_size zero = 0
text_size (suc n) = 1 + size (suc n) + suc n

-- how many bytes the fields of so many lengths of so many bytes have at least
abbrev pub lengths_size : ℕ → ℕ → ℕ
lengths_size zero p = 0
lengths_size (suc zero) p = 1 + p
lengths_size (suc (suc n)) p = 1 + size p + p

pub text_more : (m n : ℕ) → m ≤ n → text_size m ≤ text_size n
text_more zero n le = omega arith
text_more (suc m) zero le = absurd (omega (arith, le))
text_more (suc m) (suc n) le = let s = size_more (suc m) (suc n) le in omega (arith, le, s)

pub text_least : (n : ℕ) → text_size n ≤ 1 + size n + n
text_least zero = omega arith
text_least (suc n) = omega arith

pub lengths_more : (m n p q : ℕ) → m ≤ n → p ≤ q → lengths_size m p ≤ lengths_size n q
lengths_more zero n p q le more = omega arith
lengths_more (suc m) zero p q le more = absurd (omega (arith, le))
lengths_more (suc zero) (suc zero) p q le more = omega (arith, more)
lengths_more (suc zero) (suc (suc n)) p q le more = omega (arith, more)
lengths_more (suc (suc m)) (suc zero) p q le more = absurd (omega (arith, le))
lengths_more (suc (suc m)) (suc (suc n)) p q le more = let s = size_more p q more in omega (arith, more, s)

-- the lengths of a packed part
pub lengths_packed : (n p : ℕ) → lengths_size n p ≤ 1 + size p + p
lengths_packed zero p = omega arith
lengths_packed (suc zero) p = omega arith
lengths_packed (suc (suc n)) p = omega arith

-- lengths in two fields have no fewer bytes than in one
pub lengths_both : (m n p q : ℕ) → m + n ≤ 256 → p ≤ 10 * m → q ≤ 10 * n → lengths_size (m + n) (p + q) ≤ lengths_size m p + lengths_size n q
lengths_both zero n p q few a b =
    let none : p ≡ 0 = omega (arith, a) in
    let same : lengths_size (0 + n) (p + q) ≤ lengths_size n q = lengths_more (0 + n) n (p + q) q (omega arith) (omega (arith, none)) in
    omega (arith, same)
lengths_both (suc m) zero p q few a b =
    let none : q ≡ 0 = omega (arith, b) in
    let same : lengths_size (suc m + 0) (p + q) ≤ lengths_size (suc m) p = lengths_more (suc m + 0) (suc m) (p + q) p (omega arith) (omega (arith, none)) in
    omega (arith, same)
lengths_both (suc zero) (suc zero) p q few a b = let s = size_one (p + q) (omega (arith, a, b)) in omega (arith, s)
lengths_both (suc zero) (suc (suc n)) p q few a b =
    let s = size_two (p + q) (omega (arith, few, a, b)) in
    let t = size_some q in
    let whole : lengths_size (1 + suc (suc n)) (p + q) ≤ 1 + size (p + q) + (p + q) = lengths_packed (1 + suc (suc n)) (p + q) in
    omega (arith, s, t, whole)
lengths_both (suc (suc m)) (suc zero) p q few a b =
    let s = size_two (p + q) (omega (arith, few, a, b)) in
    let t = size_some p in
    let whole : lengths_size (suc (suc m) + 1) (p + q) ≤ 1 + size (p + q) + (p + q) = lengths_packed (suc (suc m) + 1) (p + q) in
    omega (arith, s, t, whole)
lengths_both (suc (suc m)) (suc (suc n)) p q few a b =
    let s = size_two (p + q) (omega (arith, few, a, b)) in
    let t = size_some p in
    let u = size_some q in
    let whole : lengths_size (suc (suc m) + suc (suc n)) (p + q) ≤ 1 + size (p + q) + (p + q) = lengths_packed (suc (suc m) + suc (suc n)) (p + q) in
    omega (arith, s, t, u, whole)

-- ---- of what was read

pub both_bytes : (xs ys : List ℕ) → AreBytes (xs ++ ys) → AreBytes xs × AreBytes ys
both_bytes [] ys h = (tt, h)
both_bytes (x ∷ xs) ys h = let rest = both_bytes xs ys h.1 in ((h.0, rest.0), rest.1)

zigzag-unzigzag : (n : ℕ) → zigzag_of (unzigzag_of n) ≡ n
zigzag-unzigzag n =
    elim (cases_lt (n % 2) 1) [
      | inl even ↦ let test : eqb (n % 2) 0 ≡ true = eq-eqb (n % 2) 0 (omega (arith, even)) in rw test (omega (arith, even))
      | inr odd ↦ let test : eqb (n % 2) 0 ≡ false = ne_eqb (n % 2) 0 (λ e. absurd (omega (arith, e, odd))) in rw test (omega (arith, odd))
    ]

spelled_numbers : (bytes numbers : List ℕ) (end : Option WireFault) → Spells IsVarint NoVarint bytes numbers end → AreBytes bytes → numbers_size (map unzigzag_of numbers) ≤ length bytes
spelled_numbers bytes [] end h all = omega arith
spelled_numbers bytes (n ∷ ns) end (front, rest, is, one, others) all =
    let parts = both_bytes front rest (subst AreBytes is all) in
    let here : size n ≤ length front = shortest_is_least n front parts.0 one in
    let there = spelled_numbers rest ns end others parts.1 in
    let whole : length bytes ≡ length front + length rest = ap length is ∙ length-append front rest in
    let number : size (zigzag_of (unzigzag_of n)) ≡ size n = ap size (zigzag-unzigzag n) in
    omega (arith, here, there, whole, number)

-- packed lengths have no more bytes than their part
packed_numbers : (b : List ℕ) → AreBytes b → numbers_size (map unzigzag_of (varints_of b).items) ≤ length b
packed_numbers b all = spelled_numbers b (varints_of b).items (varints_of b).fault (spells-reading IsVarint NoVarint varint_at varint_reader b) all

-- what a field gives: its lengths, and its values
abbrev lengths_at : WireField → List ℤ
lengths_at f = sint64s_at 1 f

abbrev part_size : Option (List ℕ) → ℕ
part_size None = 0
part_size (Some b) = text_size (length b)

abbrev field_size : WireField → ℕ
field_size f = lengths_size (length (lengths_at f)) (numbers_size (lengths_at f)) + part_size (part_in 2 f)

other_field : (number : ℕ) (value : WireValue) → eqb number 1 ≡ false → eqb number 2 ≡ false → field_size (record { number = number; value = value }) ≡ 0
other_field number value one two = rw (one, two) refl

value_field : (value : WireValue) (tag body : List ℕ) → 1 ≤ length tag → IsPayload body value → AreBytes body → field_size (record { number = 2; value = value }) ≤ length tag + length body
value_field (Varint n) tag body some is all = omega arith
value_field (Eight b) tag body some is all = omega arith
value_field (Four b) tag body some is all = omega arith
value_field (Bytes b) tag body some (count, one, parts) all =
    let bytes = both_bytes count b (subst AreBytes parts all) in
    let least = shortest_is_least (length b) count bytes.0 one in
    let whole : length body ≡ length count + length b = ap length parts ∙ length-append count b in
    let text = text_least (length b) in
    omega (arith, some, least, whole, text)

length_field : (value : WireValue) (tag body : List ℕ) → 1 ≤ length tag → IsPayload body value → AreBytes body → field_size (record { number = 1; value = value }) ≤ length tag + length body
length_field (Varint n) tag body some is all =
    let least = shortest_is_least n body all is in
    let number : size (zigzag_of (unzigzag_of n)) ≡ size n = ap size (zigzag-unzigzag n) in
    omega (arith, some, least, number)
length_field (Eight b) tag body some is all = omega arith
length_field (Four b) tag body some is all = omega arith
length_field (Bytes b) tag body some (count, one, parts) all =
    let bytes = both_bytes count b (subst AreBytes parts all) in
    let least = shortest_is_least (length b) count bytes.0 one in
    let whole : length body ≡ length count + length b = ap length parts ∙ length-append count b in
    let numbers = map unzigzag_of (varints_of b).items in
    let packed : numbers_size numbers ≤ length b = packed_numbers b bytes.1 in
    let more = size_more (numbers_size numbers) (length b) packed in
    let most : lengths_size (length numbers) (numbers_size numbers) ≤ 1 + size (numbers_size numbers) + numbers_size numbers = lengths_packed (length numbers) (numbers_size numbers) in
    omega (arith, some, least, whole, packed, more, most)

-- a field has as many bytes as what it gives at least
field_least : (front : List ℕ) (f : WireField) → IsField front f → AreBytes front → field_size f ≤ length front
field_least front f (tag, body, parts, within, varint, held) all =
    let bytes = both_bytes tag body (subst AreBytes parts all) in
    let least = shortest_is_least (f.number * 8 + wire_type f.value) tag bytes.0 varint in
    let some : 1 ≤ length tag = (let s = size_some (f.number * 8 + wire_type f.value) in omega (arith, s, least)) in
    let whole : length front ≡ length tag + length body = ap length parts ∙ length-append tag body in
    by f.number (eqb f.number 1) (eqb f.number 2) refl refl some whole held bytes.1
  where
    by : (number : ℕ) (one two : Bool) → eqb number 1 ≡ one → eqb number 2 ≡ two → 1 ≤ length tag → length front ≡ length tag + length body → IsPayload body f.value → AreBytes body
        → field_size (record { number = number; value = f.value }) ≤ length front
    by number true two e g some whole held bytes =
        let is : number ≡ 1 = eqb-true number 1 e in
        let most = length_field f.value tag body some held bytes in
        rw is (omega (arith, whole, most))
    by number false true e g some whole held bytes =
        let is : number ≡ 2 = eqb-true number 2 g in
        let most = value_field f.value tag body some held bytes in
        rw is (omega (arith, whole, most))
    by number false false e g some whole held bytes = let none = other_field number f.value e g in omega (arith, none)

-- ---- of a message

abbrev lengths_in : List WireField → List ℤ
lengths_in fs = sint64s_of 1 fs

abbrev last_in : List ℕ → List WireField → List ℕ
last_in default fs = last_of default (filter_map (part_in 2) fs)

-- the lengths of fields, and their last values or the default, have no more bytes than the fields and the default
pub spelled_fields : (bytes : List ℕ) (fs : List WireField) (end : Option WireFault) → Spells IsField NoField bytes fs end → AreBytes bytes → length (lengths_in fs) ≤ 256
    → (default : List ℕ) → lengths_size (length (lengths_in fs)) (numbers_size (lengths_in fs)) + text_size (length (last_in default fs)) ≤ length bytes + text_size (length default)
spelled_fields bytes [] end h all few default = omega arith
spelled_fields bytes (f ∷ fs) end (front, rest, is, one, others) all few default =
    let parts = both_bytes front rest (subst AreBytes is all) in
    let here = field_least front f one parts.0 in
    let count : length (lengths_in (f ∷ fs)) ≡ length (lengths_at f) + length (lengths_in fs) = length-append (lengths_at f) (lengths_in fs) in
    let numbers : numbers_size (lengths_in (f ∷ fs)) ≡ numbers_size (lengths_at f) + numbers_size (lengths_in fs) = numbers_append (lengths_at f) (lengths_in fs) in
    let both = lengths_both (length (lengths_at f)) (length (lengths_in fs)) (numbers_size (lengths_at f)) (numbers_size (lengths_in fs)) (omega (arith, few, count)) (numbers_most (lengths_at f)) (numbers_most (lengths_in fs)) in
    let sum : lengths_size (length (lengths_in (f ∷ fs))) (numbers_size (lengths_in (f ∷ fs))) ≤ lengths_size (length (lengths_at f)) (numbers_size (lengths_at f)) + lengths_size (length (lengths_in fs)) (numbers_size (lengths_in fs)) = rw (count, numbers) both in
    let whole : length bytes ≡ length front + length rest = ap length is ∙ length-append front rest in
    by (part_in 2 f) refl here sum whole (λ d. spelled_fields rest fs end others parts.1 (omega (arith, few, count)) d)
  where
    by : (part : Option (List ℕ)) → part_in 2 f ≡ part → field_size f ≤ length front
        → lengths_size (length (lengths_in (f ∷ fs))) (numbers_size (lengths_in (f ∷ fs))) ≤ lengths_size (length (lengths_at f)) (numbers_size (lengths_at f)) + lengths_size (length (lengths_in fs)) (numbers_size (lengths_in fs))
        → length bytes ≡ length front + length rest
        → ((d : List ℕ) → lengths_size (length (lengths_in fs)) (numbers_size (lengths_in fs)) + text_size (length (last_in d fs)) ≤ length rest + text_size (length d))
        → lengths_size (length (lengths_in (f ∷ fs))) (numbers_size (lengths_in (f ∷ fs))) + text_size (length (last_in default (f ∷ fs))) ≤ length bytes + text_size (length default)
    by None e here sum whole there =
        let none : part_size (part_in 2 f) ≡ 0 = ap part_size e in
        let last : last_in default (f ∷ fs) ≡ last_in default fs = ap (λ o. last_of default (cons_option o (filter_map (part_in 2) fs))) e in
        let same : text_size (length (last_in default (f ∷ fs))) ≡ text_size (length (last_in default fs)) = ap (λ (b : List ℕ). text_size (length b)) last in
        let next = there default in
        omega (arith, none, same, next, here, sum, whole)
    by (Some b) e here sum whole there =
        let some : part_size (part_in 2 f) ≡ text_size (length b) = ap part_size e in
        let last : last_in default (f ∷ fs) ≡ last_in b fs = ap (λ o. last_of default (cons_option o (filter_map (part_in 2) fs))) e in
        let same : text_size (length (last_in default (f ∷ fs))) ≡ text_size (length (last_in b fs)) = ap (λ (c : List ℕ). text_size (length c)) last in
        let next = there b in
        omega (arith, some, same, next, here, sum, whole)

-- the lengths and the values of a message have no more bytes than the message
pub message_least : (bytes : List ℕ) → AreBytes bytes → length (row_lengths bytes) ≤ 256
    → lengths_size (length (row_lengths bytes)) (numbers_size (row_lengths bytes)) + text_size (length (row_values bytes)) ≤ length bytes
message_least bytes all few =
    let least = spelled_fields bytes (fields_of bytes).items (fields_of bytes).fault (spells-reading IsField NoField field_at field_reader bytes) all few [] in
    omega (arith, least)
