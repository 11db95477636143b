-- A row that was read is within the limits as it is written, and so are some of its columns, none of them twice.
use Rattle.std.proofs.Common.{◌≡◌, ℕ, zero, suc, ℤ, pos, negsuc, ◌+◌, ◌-◌, ◌*◌, ◌^◌, ◌<◌, ◌≤◌, inl, inr, Bool, true, false, ltb, List, [], ◌∷◌, ◌++◌, map, length, take, drop, Option, Some, None, refl, sym, ap, subst, ◌∙◌, length-append, arith}
use Rattle.std.specs.Prelude.{slice_get, slice_index_or}
use Rattle.std.specs.List.{AllByRecursion}
use Rattle.std.proofs.lemmas.Bool.{cases_lt, lt-ltb}
use Rattle.std.proofs.lemmas.List.{length-take, length-drop}
use Rattle.proto_wire.specs.Varint.{AreBytes, shortest}
use Rattle.std.proofs.lemmas.List.Concat.{flat_map-append}
use Rattle.proto_wire.specs.Writing.{written_field, written_fields, text_field}
use Rattle.row_view.specs.RowFields.{row_lengths, row_values}
use Rattle.row_view.specs.Row.{RowValue, size_of_all, columns_over}
use Rattle.row_view.specs.Picked.{picked, ArePlaces, AreApart}
use Rattle.row_view.specs.WrittenRow.{length_number, value_bytes, written_lengths, written_values, packed_fields, is_plain, length_fields, written_row, IsWithinLimits, RowsAreWithinLimits, PickedAreWithinLimits}
use Rattle.row_view.proofs.ColumnLaws.{columns_over-only}
use Rattle.row_view.proofs.SizeLaws.{size, size_one, size_some, size_more, numbers_size, text_size, text_more, text_least, lengths_size, lengths_more, message_least}
use Rattle.row_view.proofs.WrittenLaws.{not_one, is_one, head_plain, head_packed, one_byte, row_length}

-- ---- the size of a row as it is written

-- the size of a row by the number of its columns, and by the bytes of their lengths and of their values
abbrev sizes : RowValue → ℕ
sizes columns = lengths_size (length columns) (length (written_lengths columns)) + text_size (length (written_values columns))

text_is : (number : ℕ) (text : List ℕ) → number < 15 → length (written_fields (text_field number text)) ≡ text_size (length text)
text_is number [] low = refl
text_is number (b ∷ bytes) low =
    let text = b ∷ bytes in
    let tag = shortest (number * 8 + 2) in
    let count = shortest (length text) in
    let whole : length (written_fields (text_field number text)) ≡ length ((tag ++ (count ++ text)) ++ []) = refl in
    let one : length tag ≡ 1 = size_one (number * 8 + 2) (omega (arith, low)) in
    omega (arith, whole, one, length-append (tag ++ (count ++ text)) [], length-append tag (count ++ text), length-append count text)

text_some : (n : ℕ) → 1 ≤ n → text_size n ≡ 1 + size n + n
text_some zero some = absurd (omega (arith, some))
text_some (suc n) some = refl

lengths_some : (columns : RowValue) → length columns ≤ length (written_lengths columns)
lengths_some [] = omega arith
lengths_some (c ∷ cs) =
    let rest = lengths_some cs in
    let one = size_some (length_number c) in
    omega (arith, rest, one, length-append (shortest (length_number c)) (written_lengths cs))

plain_size : (columns : RowValue) → is_plain columns ≡ true → length (written_row columns) ≡ 1 + length (written_lengths columns) + text_size (length (written_values columns))
plain_size columns is =
    let head : length (written_fields (length_fields columns)) ≡ length (shortest 8) + length (written_lengths columns) = ap length (head_plain columns is) ∙ length-append (shortest 8) (written_lengths columns) in
    omega (arith, row_length columns, head, one_byte, text_is 2 (written_values columns) (omega arith))

packed_size : (columns : RowValue) → is_plain columns ≡ false → length (written_row columns) ≡ text_size (length (written_lengths columns)) + text_size (length (written_values columns))
packed_size columns is =
    let head : length (written_fields (length_fields columns)) ≡ length (written_fields (text_field 1 (written_lengths columns))) = ap length (head_packed columns is) in
    omega (arith, row_length columns, head, text_is 1 (written_lengths columns) (omega arith), text_is 2 (written_values columns) (omega arith))

-- a row of one column whose length is packed is short
short_one : (column : Option (List ℕ)) → is_plain (column ∷ []) ≡ false → length (written_row (column ∷ [])) ≤ 2 ^ 24
short_one column is =
    let columns = column ∷ [] in
    let packed = written_fields (packed_fields columns) in
    let parts : length packed ≡ length (written_fields (text_field 1 (written_lengths columns))) + length (written_fields (text_field 2 (written_values columns))) =
    ap length (flat_map-append written_field (text_field 1 (written_lengths columns)) (text_field 2 (written_values columns))) ∙ length-append (written_fields (text_field 1 (written_lengths columns))) (written_fields (text_field 2 (written_values columns))) in
    let same : length (written_row columns) ≡ length packed = omega (arith, packed_size columns is, parts, text_is 1 (written_lengths columns) (omega arith), text_is 2 (written_values columns) (omega arith)) in
    elim (cases_lt (2 ^ 24) (length packed)) [
      | inl long ↦ absurd (let test : ltb (2 ^ 24) (length packed) ≡ true = lt-ltb (2 ^ 24) (length packed) long in let plain = is_one columns refl in cc)
      | inr short ↦ omega (arith, same, short)
    ]

short_row : (columns : RowValue) (plain : Bool) → is_plain columns ≡ plain → sizes columns ≤ 2 ^ 24 → length (written_row columns) ≤ 2 ^ 24
short_row [] true is le = absurd cc
short_row [] false is le = let whole = packed_size [] is in omega (arith, whole)
short_row (c ∷ []) true is le = let whole = plain_size (c ∷ []) is in omega (arith, whole, le)
short_row (c ∷ []) false is le = short_one c is
short_row (a ∷ b ∷ cs) true is le = absurd (let packed = not_one (a ∷ b ∷ cs) (λ e. omega (arith, e)) in cc)
short_row (a ∷ b ∷ cs) false is le =
    let whole = packed_size (a ∷ b ∷ cs) is in
    let text = text_least (length (written_lengths (a ∷ b ∷ cs))) in
    omega (arith, whole, le, text)

within : (columns : RowValue) → length columns ≤ 256 → sizes columns ≤ 2 ^ 24 → IsWithinLimits columns
within columns few le = record { few = few; short = short_row columns (is_plain columns) refl le }

sizes_short : (columns : RowValue) (plain : Bool) → is_plain columns ≡ plain → length (written_row columns) ≤ 2 ^ 24 → sizes columns ≤ 2 ^ 24
sizes_short [] true is short = absurd cc
sizes_short [] false is short = omega arith
sizes_short (c ∷ []) true is short = let whole = plain_size (c ∷ []) is in omega (arith, whole, short)
sizes_short (c ∷ []) false is short =
    let whole = packed_size (c ∷ []) is in
    let some = lengths_some (c ∷ []) in
    let text = text_some (length (written_lengths (c ∷ []))) (omega (arith, some)) in
    omega (arith, whole, short, text)
sizes_short (a ∷ b ∷ cs) true is short = absurd (let packed = not_one (a ∷ b ∷ cs) (λ e. omega (arith, e)) in cc)
sizes_short (a ∷ b ∷ cs) false is short =
    let whole = packed_size (a ∷ b ∷ cs) is in
    let some = lengths_some (a ∷ b ∷ cs) in
    let text = text_some (length (written_lengths (a ∷ b ∷ cs))) (omega (arith, some)) in
    omega (arith, whole, short, text)

-- a row with no more columns, of no more bytes, than one within the limits
pub no_longer : (columns others : RowValue) → IsWithinLimits columns → length others ≤ length columns → length (written_lengths others) ≤ length (written_lengths columns)
    → length (written_values others) ≤ length (written_values columns) → IsWithinLimits others
no_longer columns others limits fewer lengths values =
    let whole = sizes_short columns (is_plain columns) refl limits.short in
    let l = lengths_more (length others) (length columns) (length (written_lengths others)) (length (written_lengths columns)) fewer lengths in
    let v = text_more (length (written_values others)) (length (written_values columns)) values in
    within others (omega (arith, fewer, limits.few)) (omega (arith, whole, l, v))

-- ---- a row that was read

record AreOver (values : List ℕ) (lengths : List ℤ) (columns : RowValue) : Type 0 where
  count : length columns ≡ length lengths
  numbers : length (written_lengths columns) ≤ numbers_size lengths
  parts : length (written_values columns) ≤ length values

over : (values : List ℕ) (lengths : List ℤ) → size_of_all lengths ≤ length values → AreOver values lengths (columns_over values lengths)
over values [] le = record { count = refl; numbers = omega arith; parts = omega arith }
over values (pos n ∷ ns) le =
    let first : length (take n values) ≡ n = omega (arith, le, length-take n values) in
    let behind : length (drop n values) ≡ length values - n = length-drop n values in
    let rest = over (drop n values) ns (omega (arith, le, behind)) in
    let columns = columns_over (drop n values) ns in
    let number : size (2 * length (take n values)) ≡ size (2 * n) = ap (λ (m : ℕ). size (2 * m)) first in
    record {
      count = omega (arith, rest.count);
      numbers = omega (arith, rest.numbers, number, length-append (shortest (2 * length (take n values))) (written_lengths columns));
      parts = omega (arith, rest.parts, first, behind, le, length-append (take n values) (written_values columns));
    }
over values (negsuc n ∷ ns) le =
    let rest = over values ns (omega (arith, le)) in
    let columns = columns_over values ns in
    let number = size_more (2 * 0 + 1) (2 * n + 1) (omega arith) in
    record {
      count = omega (arith, rest.count);
      numbers = omega (arith, rest.numbers, number, length-append (shortest (2 * 0 + 1)) (written_lengths columns));
      parts = rest.parts;
    }

over_within : (bytes : List ℕ) (columns : RowValue) → AreBytes bytes → length bytes ≤ 2 ^ 24 → length (row_lengths bytes) ≤ 256 → AreOver (row_values bytes) (row_lengths bytes) columns → IsWithinLimits columns
over_within bytes columns all short few is =
    let least = message_least bytes all few in
    let l = lengths_more (length columns) (length (row_lengths bytes)) (length (written_lengths columns)) (numbers_size (row_lengths bytes)) (omega (arith, is.count)) is.numbers in
    let v = text_more (length (written_values columns)) (length (row_values bytes)) is.parts in
    within columns (omega (arith, is.count, few)) (omega (arith, least, l, v, short))

pub rows_within : RowsAreWithinLimits
rows_within bytes columns all is =
    let are : columns ≡ columns_over (row_values bytes) (row_lengths bytes) = columns_over-only (row_values bytes) (row_lengths bytes) columns is.columns_are in
    over_within bytes columns all is.size is.few (subst (AreOver (row_values bytes) (row_lengths bytes)) (sym are) (over (row_values bytes) (row_lengths bytes) is.within))

-- ---- some of its columns

abbrev total : List ℕ → ℕ
total [] = 0
total (w ∷ ws) = w + total ws

abbrev weight_at : List ℕ → ℕ → ℕ
weight_at [] p = 0
weight_at (w ∷ ws) zero = w
weight_at (w ∷ ws) (suc p) = weight_at ws p

abbrev without : List ℕ → ℕ → List ℕ
without [] p = []
without (w ∷ ws) zero = 0 ∷ ws
without (w ∷ ws) (suc p) = w ∷ without ws p

abbrev sum_at : List ℕ → List ℕ → ℕ
sum_at ws [] = 0
sum_at ws (p ∷ ps) = weight_at ws p + sum_at ws ps

total_without : (ws : List ℕ) (p : ℕ) → weight_at ws p + total (without ws p) ≡ total ws
total_without [] p = refl
total_without (w ∷ ws) zero = omega arith
total_without (w ∷ ws) (suc p) = let rest = total_without ws p in omega (arith, rest)

at_without : (ws : List ℕ) (p q : ℕ) → (q ≡ p → ⊥) → weight_at (without ws p) q ≡ weight_at ws q
at_without [] p q other = refl
at_without (w ∷ ws) zero zero other = absurd (other refl)
at_without (w ∷ ws) zero (suc q) other = refl
at_without (w ∷ ws) (suc p) zero other = refl
at_without (w ∷ ws) (suc p) (suc q) other = at_without ws p q (λ e. other (ap suc e))

sum_without : (ws : List ℕ) (p : ℕ) (ps : List ℕ) → AllByRecursion (λ q. q ≡ p → ⊥) ps → sum_at (without ws p) ps ≡ sum_at ws ps
sum_without ws p [] others = refl
sum_without ws p (q ∷ ps) others =
    let here = at_without ws p q others.0 in
    let rest = sum_without ws p ps others.1 in
    omega (arith, here, rest)

others_than : (p : ℕ) (ps : List ℕ) → ((j q : ℕ) → slice_get ps j ≡ Some q → q ≡ p → ⊥) → AllByRecursion (λ q. q ≡ p → ⊥) ps
others_than p [] none = tt
others_than p (q ∷ ps) none = (none 0 q refl, others_than p ps (λ j r. none (suc j) r))

apart_first : (p : ℕ) (ps : List ℕ) → AreApart (p ∷ ps) → AllByRecursion (λ q. q ≡ p → ⊥) ps
apart_first p ps apart = others_than p ps (λ j q there same. let both = apart 0 (suc j) p refl (there ∙ ap Some same) in omega (arith, both))

apart_rest : (p : ℕ) (ps : List ℕ) → AreApart (p ∷ ps) → AreApart ps
apart_rest p ps apart i j q a b = let both = apart (suc i) (suc j) q a b in omega (arith, both)

sum_least : (ws ps : List ℕ) → AreApart ps → sum_at ws ps ≤ total ws
sum_least ws [] apart = omega arith
sum_least ws (p ∷ ps) apart =
    let rest = sum_least (without ws p) ps (apart_rest p ps apart) in
    let same = sum_without ws p ps (apart_first p ps apart) in
    let whole = total_without ws p in
    omega (arith, rest, same, whole)

weight_is : (w : Option (List ℕ) → ℕ) (row : RowValue) (p : ℕ) → p < length row → w (slice_index_or row p None) ≡ weight_at (map w row) p
weight_is w [] p lt = absurd (omega (arith, lt))
weight_is w (c ∷ cs) zero lt = refl
weight_is w (c ∷ cs) (suc p) lt = weight_is w cs p (omega (arith, lt))

picked_total : (w : Option (List ℕ) → ℕ) (row : RowValue) (places : List ℕ) → ArePlaces places row → total (map w (picked places row)) ≡ sum_at (map w row) places
picked_total w row [] are = refl
picked_total w row (p ∷ ps) are =
    let here = weight_is w row p are.0 in
    let rest = picked_total w row ps are.1 in
    omega (arith, here, rest)

picked_least : (w : Option (List ℕ) → ℕ) (row : RowValue) (places : List ℕ) → ArePlaces places row → AreApart places → total (map w (picked places row)) ≤ total (map w row)
picked_least w row places are apart =
    let same = picked_total w row places are in
    let least = sum_least (map w row) places apart in
    omega (arith, same, least)

count_is : (columns : RowValue) → total (map (λ _. 1) columns) ≡ length columns
count_is [] = refl
count_is (c ∷ cs) = let rest = count_is cs in omega (arith, rest)

lengths_are : (columns : RowValue) → total (map (λ c. size (length_number c)) columns) ≡ length (written_lengths columns)
lengths_are [] = refl
lengths_are (c ∷ cs) = let rest = lengths_are cs in omega (arith, rest, length-append (shortest (length_number c)) (written_lengths cs))

values_are : (columns : RowValue) → total (map (λ c. length (value_bytes c)) columns) ≡ length (written_values columns)
values_are [] = refl
values_are (c ∷ cs) = let rest = values_are cs in omega (arith, rest, length-append (value_bytes c) (written_values cs))

pub picked_within : PickedAreWithinLimits
picked_within columns places limits are apart =
    let some = picked places columns in
    let fewer = picked_least (λ _. 1) columns places are apart in
    let lengths = picked_least (λ c. size (length_number c)) columns places are apart in
    let values = picked_least (λ c. length (value_bytes c)) columns places are apart in
    no_longer columns some limits
    (omega (arith, fewer, count_is columns, count_is some))
    (omega (arith, lengths, lengths_are columns, lengths_are some))
    (omega (arith, values, values_are columns, values_are some))
