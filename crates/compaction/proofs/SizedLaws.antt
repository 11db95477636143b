-- Rows and the messages that insert them, by the sizes of their parts.
use Rattle.std.proofs.Common.{◌≡◌, ◌⊎◌, ◌∙◌, ℕ, ◌+◌, ◌*◌, ◌^◌, ◌<◌, ◌≤◌, ◌==◌, ◌&&◌, arith, Bool, true, false, ltb, List, [], ◌∷◌, ◌++◌, map, length, refl, sym, ap, subst, inl, inr, append_assoc, drop, get_or}
use Rattle.std.specs.List.{flat_map}
use Rattle.std.proofs.lemmas.Bool.{cond-true, cond-false, cases_lt, lt-ltb, le-ltb, ne_eqb, false≢true}
use Rattle.std.proofs.lemmas.List.{append-nil, drop_more, length-append}
use Rattle.std.proofs.lemmas.List.Concat.{flat_map-append}
use Rattle.proto_wire.specs.Varint.{shortest_within, shortest}
use Rattle.proto_wire.specs.Writing.{written_field, written_fields, text_field, number_field, message_field}
use Rattle.row_view.specs.Row.{RowValue}
use Rattle.row_view.specs.WrittenRow.{written_lengths, written_values, packed_fields, is_plain, length_fields, written_row, IsWithinLimits}
use Rattle.row_view.proofs.WrittenLaws.{is_one, head_plain, head_packed, row_length}
use Rattle.vevent.specs.WrittenEvent.{message_fields, written_change, written_row_event, written_event}
use Rattle.feed_bytes.specs.Inserts.{insert_change, inserts}
use Rattle.feed_bytes.proofs.InsertLaws.{event_long, framed_one}
use Rattle.compaction.specs.Private.Sized.{held_size, text_size, packed_size, plain_size, row_size, IsWithin, HasSizes, held_head, text_head, lengths_head, change_field, change_fields, inserts_message, joined}

-- ---- tags

tag_held : shortest (2 * 8 + 2) ≡ 18 ∷ []
unfolding shortest shortest_within
tag_held = refl

tag_lengths : shortest (1 * 8 + 2) ≡ 10 ∷ []
unfolding shortest shortest_within
tag_lengths = refl

tag_length : shortest 8 ≡ 8 ∷ []
unfolding shortest shortest_within
tag_length = refl

-- ---- one part

field_is : (tag number : ℕ) → shortest (number * 8 + 2) ≡ tag ∷ [] → (bytes : List ℕ) → written_field (message_field number bytes) ≡ held_head tag (length bytes) ++ bytes
field_is tag number is bytes = ap (λ (w : List ℕ). w ++ (shortest (length bytes) ++ bytes)) is

field_long : (tag number : ℕ) → shortest (number * 8 + 2) ≡ tag ∷ [] → (bytes : List ℕ) → length (written_field (message_field number bytes)) ≡ held_size (length bytes)
field_long tag number is bytes =
    let parts : length (written_field (message_field number bytes)) ≡ length ((tag ∷ shortest (length bytes)) ++ bytes) = ap length (field_is tag number is bytes) in
    omega (arith, parts, length-append (shortest (length bytes)) bytes)

not_empty : (b : ℕ) (bytes : List ℕ) → (length (b ∷ bytes) == 0) ≡ false
not_empty b bytes = ne_eqb (length (b ∷ bytes)) 0 (λ e. omega (arith, e))

text_is : (tag number : ℕ) → shortest (number * 8 + 2) ≡ tag ∷ [] → (text : List ℕ) → written_fields (text_field number text) ≡ text_head tag (length text) ++ text
text_is tag number is [] = refl
text_is tag number is (b ∷ bytes) =
    let text : List ℕ = b ∷ bytes in
    append-nil (written_field (message_field number text)) ∙ field_is tag number is text
    ∙ ap (λ (w : List ℕ). w ++ text) (sym (cond-false (length text == 0) [] (held_head tag (length text)) (not_empty b bytes)))

text_long : (tag number : ℕ) → shortest (number * 8 + 2) ≡ tag ∷ [] → (text : List ℕ) → length (written_fields (text_field number text)) ≡ text_size (length text)
text_long tag number is [] = refl
text_long tag number is (b ∷ bytes) =
    let text : List ℕ = b ∷ bytes in
    ap length (append-nil (written_field (message_field number text))) ∙ field_long tag number is text ∙ sym (cond-false (length text == 0) 0 (held_size (length text)) (not_empty b bytes))

-- ---- the size of a row

lengths_long : (row : RowValue) → length (written_fields (text_field 1 (written_lengths row))) ≡ text_size (length (written_lengths row))
lengths_long row = text_long 10 1 tag_lengths (written_lengths row)

values_long : (row : RowValue) → length (written_fields (text_field 2 (written_values row))) ≡ text_size (length (written_values row))
values_long row = text_long 18 2 tag_held (written_values row)

packed_long : (row : RowValue) → length (written_fields (packed_fields row)) ≡ packed_size (length (written_lengths row)) (length (written_values row))
packed_long row =
    let parts : length (written_fields (packed_fields row)) ≡ length (written_fields (text_field 1 (written_lengths row))) + length (written_fields (text_field 2 (written_values row))) =
    ap length (flat_map-append written_field (text_field 1 (written_lengths row)) (text_field 2 (written_values row)))
    ∙ length-append (written_fields (text_field 1 (written_lengths row))) (written_fields (text_field 2 (written_values row))) in
    omega (arith, parts, lengths_long row, values_long row)

if_packed : (row : RowValue) → is_plain row ≡ false → length (written_row row) ≡ packed_size (length (written_lengths row)) (length (written_values row))
if_packed row is =
    let head : length (written_fields (length_fields row)) ≡ length (written_fields (text_field 1 (written_lengths row))) = ap length (head_packed row is) in
    omega (arith, row_length row, head, lengths_long row, values_long row)

if_plain : (row : RowValue) → is_plain row ≡ true → length (written_row row) ≡ plain_size (length (written_lengths row)) (length (written_values row))
if_plain row is =
    let head : length (written_fields (length_fields row)) ≡ length ((8 ∷ []) ++ written_lengths row) = ap length (head_plain row is ∙ ap (λ (w : List ℕ). w ++ written_lengths row) tag_length) in
    omega (arith, row_length row, head, values_long row)

and-false : (a : Bool) → (a && false) ≡ false
and-false true = refl
and-false false = refl

-- a row that is short with packed lengths has these packed
is_packed : (row : RowValue) → packed_size (length (written_lengths row)) (length (written_values row)) ≤ 2 ^ 24 → is_plain row ≡ false
is_packed row short =
    let test : ltb (2 ^ 24) (length (written_fields (packed_fields row))) ≡ false = le-ltb (2 ^ 24) (length (written_fields (packed_fields row))) (omega (arith, short, packed_long row)) in
    ap (λ (b : Bool). (length row == 1) && b) test ∙ and-false (length row == 1)

-- a row within the limits has its length in a field of its own just where it would be beyond them
plain_is : (row : RowValue) (lengths values : ℕ) → HasSizes row lengths values → ltb (2 ^ 24) (packed_size lengths values) ≡ is_plain row
plain_is row lengths values has =
    let l : length (written_lengths row) ≡ lengths = has.lengths_are in
    let v : length (written_values row) ≡ values = has.values_are in
    let same : packed_size lengths values ≡ packed_size (length (written_lengths row)) (length (written_values row)) = ap (λ (n : ℕ). packed_size n values) (sym l) ∙ ap (packed_size (length (written_lengths row))) (sym v) in
    elim (cases_lt (2 ^ 24) (packed_size lengths values)) [
      | inl long ↦ lt-ltb (2 ^ 24) (packed_size lengths values) long ∙ sym (by long same (is_plain row) refl)
      | inr short ↦ le-ltb (2 ^ 24) (packed_size lengths values) short ∙ sym (is_packed row (omega (arith, short, same)))
    ]
  where
    by : 2 ^ 24 < packed_size lengths values → packed_size lengths values ≡ packed_size (length (written_lengths row)) (length (written_values row)) → (plain : Bool) → is_plain row ≡ plain → is_plain row ≡ true
    by long same true is = is
    by long same false is = absurd (let whole = if_packed row is in omega (arith, long, same, whole, has.within.short))

pub row_long : (row : RowValue) (lengths values : ℕ) → HasSizes row lengths values → length (written_row row) ≡ row_size lengths values
row_long row lengths values has = by (is_plain row) refl
  where
    by : (plain : Bool) → is_plain row ≡ plain → length (written_row row) ≡ row_size lengths values
    by true is =
        if_plain row is ∙ ap (λ (n : ℕ). plain_size n (length (written_values row))) has.lengths_are ∙ ap (plain_size lengths) has.values_are
        ∙ sym (cond-true (ltb (2 ^ 24) (packed_size lengths values)) (plain_size lengths values) (packed_size lengths values) (plain_is row lengths values has ∙ is))
    by false is =
        if_packed row is ∙ ap (λ (n : ℕ). packed_size n (length (written_values row))) has.lengths_are ∙ ap (packed_size lengths) has.values_are
        ∙ sym (cond-false (ltb (2 ^ 24) (packed_size lengths values)) (plain_size lengths values) (packed_size lengths values) (plain_is row lengths values has ∙ is))

-- a row of sizes within the limits is
pub fits : (row : RowValue) → IsWithin (length row) (length (written_lengths row)) (length (written_values row)) → IsWithinLimits row
fits row w = record { few = w.few; short = by w.short }
  where
    one_column : length row ≡ 1 → plain_size (length (written_lengths row)) (length (written_values row)) ≤ 2 ^ 24 → (plain : Bool) → is_plain row ≡ plain → length (written_row row) ≤ 2 ^ 24
    one_column one le true is = let whole = if_plain row is in omega (arith, whole, le)
    one_column one le false is =
        let whole = if_packed row is in
        elim (cases_lt (2 ^ 24) (length (written_fields (packed_fields row)))) [
          | inl long ↦ absurd (let test : ltb (2 ^ 24) (length (written_fields (packed_fields row))) ≡ true = lt-ltb (2 ^ 24) (length (written_fields (packed_fields row))) long in let plain = is_one row one in cc)
          | inr short ↦ omega (arith, whole, short, packed_long row)
        ]

    by : (packed_size (length (written_lengths row)) (length (written_values row)) ≤ 2 ^ 24) ⊎ ((length row ≡ 1) × (plain_size (length (written_lengths row)) (length (written_values row)) ≤ 2 ^ 24)) → length (written_row row) ≤ 2 ^ 24
    by (inl short) = let whole = if_packed row (is_packed row short) in omega (arith, whole, short)
    by (inr (one, le)) = one_column one le (is_plain row) refl

text_least : (n : ℕ) → n ≤ text_size n
text_least n =
    elim (cases_lt 0 n) [
      | inl some ↦ let whole : text_size n ≡ held_size n = cond-false (n == 0) 0 (held_size n) (ne_eqb n 0 (λ e. omega (arith, e, some))) in omega (arith, whole)
      | inr none ↦ omega (arith, none)
    ]

both_true : (a b : Bool) → (a && b) ≡ true → a ≡ true
both_true true b e = refl
both_true false b e = absurd (false≢true e)

one_column : (n : ℕ) → (n == 1) ≡ true → n ≡ 1
one_column n e =
    elim (cases_lt n 1) [
      | inl less ↦ absurd (false≢true (sym (ne_eqb n 1 (λ is. omega (arith, is, less))) ∙ e))
      | inr more ↦ elim (cases_lt 1 n) [
        | inl behind ↦ absurd (false≢true (sym (ne_eqb n 1 (λ is. omega (arith, is, behind))) ∙ e))
        | inr up_to ↦ omega (arith, more, up_to)
      ]
    ]

-- and one within the limits has such sizes
pub fitting : (row : RowValue) → IsWithinLimits row → IsWithin (length row) (length (written_lengths row)) (length (written_values row))
fitting row w = by (is_plain row) refl
  where
    by : (plain : Bool) → is_plain row ≡ plain → IsWithin (length row) (length (written_lengths row)) (length (written_values row))
    by true is =
        let whole = if_plain row is in
        let values = text_least (length (written_values row)) in
        record {
          few = w.few;
          lengths_short = omega (arith, whole, w.short);
          values_short = omega (arith, whole, w.short, values);
          short = inr (one_column (length row) (both_true (length row == 1) (ltb (2 ^ 24) (length (written_fields (packed_fields row)))) is), omega (arith, whole, w.short));
        }
    by false is =
        let whole = if_packed row is in
        let lengths = text_least (length (written_lengths row)) in
        let values = text_least (length (written_values row)) in
        record {
          few = w.few;
          lengths_short = omega (arith, whole, w.short, lengths);
          values_short = omega (arith, whole, w.short, values);
          short = inl (omega (arith, whole, w.short));
        }

-- and one whose sizes aren't is not
pub unfitting : (row : RowValue) (columns lengths values : ℕ) → columns ≡ length row → lengths ≡ length (written_lengths row) → values ≡ length (written_values row) → ¬ IsWithin columns lengths values → ¬ IsWithinLimits row
unfitting row columns lengths values c l v not w =
    not (subst (λ (n : ℕ). IsWithin n lengths values) (sym c)
    (subst (λ (n : ℕ). IsWithin (length row) n values) (sym l) (subst (IsWithin (length row) (length (written_lengths row))) (sym v) (fitting row w))))

pub has_sizes : (row : RowValue) (columns lengths values : ℕ) → columns ≡ length row → lengths ≡ length (written_lengths row) → values ≡ length (written_values row) → IsWithin columns lengths values → HasSizes row lengths values
has_sizes row columns lengths values c l v w =
    let columns_in : IsWithin (length row) lengths values = subst (λ (n : ℕ). IsWithin n lengths values) c w in
    let lengths_in : IsWithin (length row) (length (written_lengths row)) values = subst (λ (n : ℕ). IsWithin (length row) n values) l columns_in in
    let all : IsWithin (length row) (length (written_lengths row)) (length (written_values row)) = subst (IsWithin (length row) (length (written_lengths row))) v lengths_in in
    record { within = fits row all; lengths_are = sym l; values_are = sym v; lengths_short = w.lengths_short; values_short = w.values_short }

-- ---- a row, part by part

lengths_is : (row : RowValue) (lengths values : ℕ) → HasSizes row lengths values → written_fields (length_fields row) ≡ lengths_head lengths values ++ written_lengths row
lengths_is row lengths values has = by (is_plain row) refl
  where
    by : (plain : Bool) → is_plain row ≡ plain → written_fields (length_fields row) ≡ lengths_head lengths values ++ written_lengths row
    by true is =
        head_plain row is ∙ ap (λ (w : List ℕ). w ++ written_lengths row) (tag_length ∙ sym (cond-true (ltb (2 ^ 24) (packed_size lengths values)) (8 ∷ []) (text_head 10 lengths) (plain_is row lengths values has ∙ is)))
    by false is =
        head_packed row is ∙ text_is 10 1 tag_lengths (written_lengths row)
        ∙ ap (λ (n : ℕ). text_head 10 n ++ written_lengths row) has.lengths_are
        ∙ ap (λ (w : List ℕ). w ++ written_lengths row) (sym (cond-false (ltb (2 ^ 24) (packed_size lengths values)) (8 ∷ []) (text_head 10 lengths) (plain_is row lengths values has ∙ is)))

pub row_is : (row : RowValue) (lengths values : ℕ) → HasSizes row lengths values → lengths_head lengths values ++ (written_lengths row ++ (text_head 18 values ++ written_values row)) ≡ written_row row
row_is row lengths values has =
    sym (append_assoc (lengths_head lengths values) (written_lengths row) (text_head 18 values ++ written_values row))
    ∙ ap (λ (w : List ℕ). w ++ (text_head 18 values ++ written_values row)) (sym (lengths_is row lengths values has))
    ∙ ap (λ (n : ℕ). written_fields (length_fields row) ++ (text_head 18 n ++ written_values row)) (sym has.values_are)
    ∙ ap (λ (w : List ℕ). written_fields (length_fields row) ++ w) (sym (text_is 18 2 tag_held (written_values row)))
    ∙ sym (flat_map-append written_field (length_fields row) (text_field 2 (written_values row)))

-- ---- the change that inserts a row

change_of : (row : RowValue) → written_change (insert_change row) ≡ held_head 18 (length (written_row row)) ++ written_row row
change_of row = append-nil (written_field (message_field 2 (written_row row))) ∙ field_is 18 2 tag_held (written_row row)

change_of_long : (row : RowValue) → length (written_change (insert_change row)) ≡ held_size (length (written_row row))
change_of_long row = ap length (append-nil (written_field (message_field 2 (written_row row)))) ∙ field_long 18 2 tag_held (written_row row)

pub change_long : (row : RowValue) → length (change_field row) ≡ held_size (held_size (length (written_row row)))
change_long row = field_long 18 2 tag_held (written_change (insert_change row)) ∙ ap held_size (change_of_long row)

pub change_is : (row : RowValue) (size : ℕ) → size ≡ length (written_row row) → held_head 18 (held_size size) ++ (held_head 18 size ++ written_row row) ≡ change_field row
change_is row size is =
    ap (λ (n : ℕ). held_head 18 (held_size n) ++ (held_head 18 n ++ written_row row)) is
    ∙ ap (λ (w : List ℕ). held_head 18 (held_size (length (written_row row))) ++ w) (sym (change_of row))
    ∙ ap (λ (n : ℕ). held_head 18 n ++ written_change (insert_change row)) (sym (change_of_long row))
    ∙ sym (field_is 18 2 tag_held (written_change (insert_change row)))

-- ---- a message

changes_are : (rows : List RowValue) → written_fields (message_fields 2 (map written_change (map insert_change rows))) ≡ change_fields rows
changes_are [] = refl
changes_are (row ∷ rows) = ap (λ (w : List ℕ). change_field row ++ w) (changes_are rows)

row_event_is : (name : List ℕ) (rows : List RowValue) → written_fields (text_field 1 name) ++ change_fields rows ≡ written_row_event name (map insert_change rows)
row_event_is name rows =
    ap (λ (w : List ℕ). written_fields (text_field 1 name) ++ w) (sym (changes_are rows))
    ∙ sym (flat_map-append written_field (text_field 1 name) (message_fields 2 (map written_change (map insert_change rows))))

-- what stands before the changes, and the changes
pub head_is : (name : List ℕ) (rows : List RowValue) (one two three four five : List ℕ) (text row_event number body event response : ℕ)
    → text ≡ length (written_fields (text_field 1 name)) → row_event ≡ text + length (change_fields rows)
    → ((bytes : List ℕ) → length bytes ≡ row_event → body ≡ length (written_field (message_field 5 bytes)))
    → number ≡ length (written_fields (number_field 1 12)) → event ≡ number + body
    → ((bytes : List ℕ) → length bytes ≡ event → response ≡ length (written_field (message_field 1 bytes)))
    → one ≡ shortest response
    → ((bytes : List ℕ) → length bytes ≡ event → two ++ bytes ≡ one ++ written_field (message_field 1 bytes))
    → three ≡ two ++ written_fields (number_field 1 12)
    → ((bytes : List ℕ) → length bytes ≡ row_event → four ++ bytes ≡ three ++ written_field (message_field 5 bytes))
    → five ≡ four ++ written_fields (text_field 1 name)
    → five ++ change_fields rows ≡ inserts_message name rows
head_is name rows one two three four five text row_event number body event response t r b n e s first second third fourth fifth =
    let message : List ℕ = written_row_event name (map insert_change rows) in
    let whole : List ℕ = written_event (inserts name rows) in
    let message_long : length message ≡ row_event = sym (ap length (row_event_is name rows)) ∙ omega (arith, t, r, length-append (written_fields (text_field 1 name)) (change_fields rows)) in
    let event_size : event ≡ length whole = event_long name rows number body event n (b message message_long) e in
    let behind : four ++ message ≡ two ++ whole =
    fourth message message_long
    ∙ ap (λ (w : List ℕ). w ++ written_field (message_field 5 message)) third
    ∙ append_assoc two (written_fields (number_field 1 12)) (written_field (message_field 5 message))
    ∙ ap (λ (w : List ℕ). two ++ (written_fields (number_field 1 12) ++ w)) (sym (append-nil (written_field (message_field 5 message))))
    ∙ ap (λ (w : List ℕ). two ++ w) (sym (flat_map-append written_field (number_field 1 12) (message_field 5 message ∷ []))) in
    let all : five ++ change_fields rows ≡ two ++ whole =
    ap (λ (w : List ℕ). w ++ change_fields rows) fifth ∙ append_assoc four (written_fields (text_field 1 name)) (change_fields rows) ∙ ap (λ (w : List ℕ). four ++ w) (row_event_is name rows) ∙ behind in
    framed_one [] one two (five ++ change_fields rows) whole response (s whole (sym event_size)) first (second whole (sym event_size)) all

-- ---- messages one after another

pub joined-push : (messages : List (List ℕ)) (message : List ℕ) → joined (messages ++ message ∷ []) ≡ joined messages ++ message
joined-push messages message = flat_map-append (λ (m : List ℕ). m) messages (message ∷ []) ∙ ap (λ (w : List ℕ). joined messages ++ w) (append-nil message)

-- what one is written as that comes first, and what those behind it are
pub first-left : {X : Type 0} (written : X → List ℕ) (xs : List X) (i : ℕ) (x : X) → i < length xs → x ≡ get_or xs i x → flat_map written (drop i xs) ≡ written x ++ flat_map written (drop (i + 1) xs)
first-left written xs i x within is = ap (flat_map written) (drop_more xs i x within) ∙ ap (λ y. written y ++ flat_map written (drop (i + 1) xs)) (sym is)
