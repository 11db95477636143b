-- A row that is written is read again.
use Rattle.std.proofs.Common.{◌≡◌, ℕ, ℤ, pos, negsuc, ◌+◌, ◌*◌, ◌/◌, ◌%◌, ◌^◌, ◌<◌, ◌≤◌, Bool, true, false, ◌&&◌, ◌==◌, eqb, ltb, List, [], ◌∷◌, ◌++◌, map, length, take, drop, Option, Some, None, Result, Ok, Err, refl, sym, ap, subst, ◌∙◌, append_assoc, arith}
use Rattle.std.specs.List.{filter_map, AllByRecursion}
use Rattle.std.proofs.lemmas.Bool.{eq-eqb, eqb-true, ne_eqb, le-ltb}
use Rattle.std.proofs.lemmas.List.Concat.{flat_map-append}
use Rattle.std.proofs.lemmas.List.{length-append, length-map, take_at, drop_at, append-nil}
use Rattle.proto_wire.specs.declared.fault.WireFault.{WireFault}
use Rattle.proto_wire.specs.Reading.{Reading}
use Rattle.proto_wire.specs.Varint as varints
use Rattle.proto_wire.specs.Varint.{varints_of, shortest}
use Rattle.proto_wire.specs.Field.{WireField, Varint, fields_of}
use Rattle.proto_wire.specs.Parts.{part_in, last_of}
use Rattle.proto_wire.specs.Zigzag.{zigzag_of, unzigzag_of}
use Rattle.proto_wire.specs.Writing.{written_field, written_fields, text_field, IsWritable, FieldsAreReadAgain, NumbersAreReadAgain}
use Rattle.row_view.specs.RowFields.{lengths_of, fault_of, row_lengths, row_values, row_wire_fault}
use Rattle.std.specs.Prelude.{IsOk, IfOk, OnOk}
use Rattle.row_view.specs.declared.fault.RowFault.{RowFault}
use Rattle.row_view.specs.Private.Kept.{IsGood}
use Rattle.row_view.proofs.KeptLaws.{good-from_IsOk}
use Rattle.row_view.specs.Row.{size_of_all, columns_in, columns_over, row_with, row_of_message}
use Rattle.row_view.specs.WrittenRow.{length_of, length_number, written_lengths, written_values, packed_fields, is_plain, length_field, length_fields, written_row, IsWithinLimits, RowsAreReadAgain}

-- ---- lengths

even_half : (n : ℕ) → unzigzag_of (2 * n) ≡ pos n
even_half n =
    let even : eqb (2 * n % 2) 0 ≡ true = eq-eqb (2 * n % 2) 0 (omega arith) in
    let half : 2 * n / 2 ≡ n = omega arith in
    rw (even, half) refl

odd_half : (n : ℕ) → unzigzag_of (2 * n + 1) ≡ negsuc n
odd_half n =
    let odd : eqb ((2 * n + 1) % 2) 0 ≡ false = ne_eqb ((2 * n + 1) % 2) 0 (λ e. absurd (omega arith)) in
    let half : (2 * n + 1) / 2 ≡ n = omega arith in
    rw (odd, half) refl

unzigzag-zigzag : (z : ℤ) → unzigzag_of (zigzag_of z) ≡ z
unzigzag-zigzag (pos n) = even_half n
unzigzag-zigzag (negsuc n) = odd_half n

lengths_back : (columns : List (Option (List ℕ))) → map unzigzag_of (map length_number columns) ≡ map length_of columns
lengths_back [] = refl
lengths_back (c ∷ cs) = rw (unzigzag-zigzag (length_of c)) (ap (λ (ns : List ℤ). length_of c ∷ ns) (lengths_back cs))

size_is : (columns : List (Option (List ℕ))) → size_of_all (map length_of columns) ≡ length (written_values columns)
size_is [] = refl
size_is (None ∷ cs) = omega (arith, size_is cs)
size_is (Some value ∷ cs) = omega (arith, size_is cs, length-append value (written_values cs))

columns_back : (columns : List (Option (List ℕ))) → columns_over (written_values columns) (map length_of columns) ≡ columns
columns_back [] = refl
columns_back (None ∷ cs) = ap (λ (xs : List (Option (List ℕ))). None ∷ xs) (columns_back cs)
columns_back (Some value ∷ cs) =
    let front : take (length value) (value ++ written_values cs) ≡ value = take_at value (written_values cs) (length value) refl in
    let rest : drop (length value) (value ++ written_values cs) ≡ written_values cs = drop_at value (written_values cs) (length value) refl in
    rw (front, rest) (ap (λ (xs : List (Option (List ℕ))). Some value ∷ xs) (columns_back cs))

-- ---- what the two fields hold

abbrev pub both : List ℕ → List ℕ → List WireField
both packed values = text_field 1 packed ++ text_field 2 values

fault_none : (packed values : List ℕ) → (varints_of packed).fault ≡ None → fault_of (record { items = both packed values; fault = None }) ≡ None
fault_none [] [] e = refl
fault_none [] (v ∷ vs) e = refl
fault_none (p ∷ ps) [] e = rw e refl
fault_none (p ∷ ps) (v ∷ vs) e = rw e refl

pub lengths_held : (packed values : List ℕ) (numbers : List ℕ) → varints_of [] ≡ record { items = []; fault = None } → varints_of packed ≡ record { items = numbers; fault = None } → lengths_of (both packed values) ≡ map unzigzag_of numbers
lengths_held [] [] numbers nil e = ap (λ (r : Reading ℕ WireFault). map unzigzag_of r.items) (sym nil ∙ e)
lengths_held [] (v ∷ vs) numbers nil e = ap (λ (r : Reading ℕ WireFault). map unzigzag_of r.items) (sym nil ∙ e)
lengths_held (p ∷ ps) [] numbers nil e = rw e (append-nil (map unzigzag_of numbers))
lengths_held (p ∷ ps) (v ∷ vs) numbers nil e = rw e (append-nil (map unzigzag_of numbers))

pub values_held : (packed values : List ℕ) → last_of [] (filter_map (part_in 2) (both packed values)) ≡ values
values_held [] [] = refl
values_held [] (v ∷ vs) = refl
values_held (p ∷ ps) [] = refl
values_held (p ∷ ps) (v ∷ vs) = refl

-- ---- the fields can be read

text_within : (number : ℕ) (text : List ℕ) → length text ≤ length (written_fields (text_field number text))
text_within number [] = omega arith
text_within number (b ∷ bytes) =
    let text = b ∷ bytes in
    let tag = shortest (number * 8 + 2) in
    let size = shortest (length text) in
    let whole : length (written_fields (text_field number text)) ≡ length ((tag ++ (size ++ text)) ++ []) = refl in
    omega (arith, whole, length-append (tag ++ (size ++ text)) [], length-append tag (size ++ text), length-append size text)

text_writable : (number : ℕ) (text : List ℕ) → 1 ≤ number → number < 2 ^ 29 → length text < 2 ^ 64 → AllByRecursion IsWritable (text_field number text)
text_writable number [] one lt fits = tt
text_writable number (b ∷ bytes) one lt fits = (record { number = (one, lt); payload = fits }, tt)

all_both : (xs ys : List WireField) → AllByRecursion IsWritable xs → AllByRecursion IsWritable ys → AllByRecursion IsWritable (xs ++ ys)
all_both [] ys h k = k
all_both (x ∷ xs) ys h k = (h.0, all_both xs ys h.1 k)

parts_within : (packed values : List ℕ) → length (written_fields (both packed values)) ≤ 2 ^ 24 → (length packed ≤ 2 ^ 24) × (length values ≤ 2 ^ 24)
parts_within packed values short =
    let whole : length (written_fields (both packed values)) ≡ length (written_fields (text_field 1 packed)) + length (written_fields (text_field 2 values)) = ap length (flat_map-append written_field (text_field 1 packed) (text_field 2 values)) ∙ length-append (written_fields (text_field 1 packed)) (written_fields (text_field 2 values)) in
    (omega (arith, whole, text_within 1 packed, short), omega (arith, whole, text_within 2 values, short))

pub fields_writable : (packed values : List ℕ) → length packed ≤ 2 ^ 24 → length values ≤ 2 ^ 24 → AllByRecursion IsWritable (both packed values)
fields_writable packed values p v = all_both (text_field 1 packed) (text_field 2 values) (text_writable 1 packed (omega arith) (omega arith) (omega arith)) (text_writable 2 values (omega arith) (omega arith) (omega arith))

-- ---- numbers can be read

values_split : (value : List ℕ) (cs : List (Option (List ℕ))) → length (written_values (Some value ∷ cs)) ≤ 2 ^ 24 → (length value ≤ 2 ^ 24) × (length (written_values cs) ≤ 2 ^ 24)
values_split value cs short = (omega (arith, length-append value (written_values cs), short), omega (arith, length-append value (written_values cs), short))

numbers_fit : (columns : List (Option (List ℕ))) → length (written_values columns) ≤ 2 ^ 24 → AllByRecursion (λ n. n < 2 ^ 64) (map length_number columns)
numbers_fit [] short = tt
numbers_fit (None ∷ cs) short = (omega arith, numbers_fit cs short)
numbers_fit (Some value ∷ cs) short = let s = values_split value cs short in (omega (arith, s.0), numbers_fit cs s.1)

-- ---- the row

with_all : (columns : List (Option (List ℕ))) → length columns ≤ 256 → row_with (written_values columns) (map length_of columns) ≡ Ok columns
unfolding row_with
with_all columns few =
    let count : ltb 256 (length (map length_of columns)) ≡ false = le-ltb _ _ (omega (arith, few, length-map columns length_of)) in
    let sum : ltb (length (written_values columns)) (size_of_all (map length_of columns)) ≡ false = le-ltb _ _ (omega (arith, size_is columns)) in
    rw (count, sum, columns_back columns) refl

not_broken : (bytes : List ℕ) → length bytes ≤ 2 ^ 24 → (fault : Option WireFault) → row_wire_fault bytes ≡ fault → fault ≡ None → row_of_message bytes ≡ row_with (row_values bytes) (row_lengths bytes)
unfolding row_of_message
not_broken bytes short fault e none =
    let size : ltb (2 ^ 24) (length bytes) ≡ false = le-ltb _ _ short in
    let whole : row_wire_fault bytes ≡ None = e ∙ none in
    rw (size, whole) refl

-- ---- with packed lengths

packed_row_again : FieldsAreReadAgain → NumbersAreReadAgain → (columns : List (Option (List ℕ))) → length columns ≤ 256 → length (written_fields (packed_fields columns)) ≤ 2 ^ 24
    → row_of_message (written_fields (packed_fields columns)) ≡ Ok columns
packed_row_again fields numbers columns few short =
    let packed = written_lengths columns in
    let values = written_values columns in
    let bytes = written_fields (packed_fields columns) in
    let within = parts_within packed values short in
    let read : fields_of bytes ≡ record { items = both packed values; fault = None } = fields (both packed values) (fields_writable packed values within.0 within.1) in
    let nil : varints_of [] ≡ record { items = []; fault = None } = numbers [] tt in
    let held : varints_of packed ≡ record { items = map length_number columns; fault = None } = numbers (map length_number columns) (numbers_fit columns within.1) in
    let whole : row_wire_fault bytes ≡ None = ap fault_of read ∙ fault_none packed values (ap (λ (r : Reading ℕ WireFault). r.fault) held) in
    let lengths_are : row_lengths bytes ≡ map length_of columns = ap (λ (r : Reading WireField WireFault). lengths_of r.items) read ∙ lengths_held packed values (map length_number columns) nil held ∙ lengths_back columns in
    let values_are : row_values bytes ≡ values = ap (λ (r : Reading WireField WireFault). last_of [] (filter_map (part_in 2) r.items)) read ∙ values_held packed values in
    not_broken bytes short None whole refl ∙ ap (λ (v : List ℕ). row_with v (row_lengths bytes)) values_are ∙ ap (λ (ns : List ℤ). row_with values ns) lengths_are ∙ with_all columns few

pub packed_lengths : (columns : List (Option (List ℕ))) → is_plain columns ≡ false → length_fields columns ≡ text_field 1 (written_lengths columns)
unfolding length_fields
packed_lengths columns e = rw e refl

plain_lengths : (columns : List (Option (List ℕ))) → is_plain columns ≡ true → length_fields columns ≡ map length_field columns
unfolding length_fields
plain_lengths columns e = rw e refl

packed_again : FieldsAreReadAgain → NumbersAreReadAgain → (columns : List (Option (List ℕ))) → IsWithinLimits columns → is_plain columns ≡ false → row_of_message (written_row columns) ≡ Ok columns
packed_again fields numbers columns limits not_plain =
    let as_packed : written_row columns ≡ written_fields (packed_fields columns) = ap (λ (fs : List WireField). written_fields (fs ++ text_field 2 (written_values columns))) (packed_lengths columns not_plain) in
    let short : length (written_fields (packed_fields columns)) ≤ 2 ^ 24 = subst (λ (b : List ℕ). length b ≤ 2 ^ 24) as_packed limits.short in
    ap row_of_message as_packed ∙ packed_row_again fields numbers columns limits.few short

-- ---- with its one length in a field of its own

abbrev plain : ℕ → List ℕ → List WireField
plain n values = record { number = 1; value = Varint n } ∷ text_field 2 values

plain_fault : (n : ℕ) (values : List ℕ) → fault_of (record { items = plain n values; fault = None }) ≡ None
plain_fault n [] = refl
plain_fault n (v ∷ vs) = refl

plain_held : (n : ℕ) (values : List ℕ) → lengths_of (plain n values) ≡ unzigzag_of n ∷ []
plain_held n [] = refl
plain_held n (v ∷ vs) = refl

plain_values : (n : ℕ) (values : List ℕ) → last_of [] (filter_map (part_in 2) (plain n values)) ≡ values
plain_values n [] = refl
plain_values n (v ∷ vs) = refl

plain_within : (n : ℕ) (values : List ℕ) → length (written_fields (plain n values)) ≤ 2 ^ 24 → length values ≤ 2 ^ 24
plain_within n values short =
    let front = written_field (record { number = 1; value = Varint n }) in
    let whole : length (written_fields (plain n values)) ≡ length front + length (written_fields (text_field 2 values)) = length-append front (written_fields (text_field 2 values)) in
    omega (arith, whole, text_within 2 values, short)

plain_row_again : FieldsAreReadAgain → (column : Option (List ℕ)) → length (written_fields (plain (length_number column) (written_values (column ∷ [])))) ≤ 2 ^ 24
    → row_of_message (written_fields (plain (length_number column) (written_values (column ∷ [])))) ≡ Ok (column ∷ [])
plain_row_again fields column short =
    let columns = column ∷ [] in
    let n = length_number column in
    let values = written_values columns in
    let bytes = written_fields (plain n values) in
    let within = plain_within n values short in
    let fits : AllByRecursion (λ n. n < 2 ^ 64) (map length_number columns) = numbers_fit columns within in
    let writable : AllByRecursion IsWritable (plain n values) = (record { number = (omega arith, omega arith); payload = fits.0 }, text_writable 2 values (omega arith) (omega arith) (omega arith)) in
    let read : fields_of bytes ≡ record { items = plain n values; fault = None } = fields (plain n values) writable in
    let whole : row_wire_fault bytes ≡ None = ap fault_of read ∙ plain_fault n values in
    let lengths_are : row_lengths bytes ≡ map length_of columns = ap (λ (r : Reading WireField WireFault). lengths_of r.items) read ∙ plain_held n values ∙ lengths_back columns in
    let values_are : row_values bytes ≡ values = ap (λ (r : Reading WireField WireFault). last_of [] (filter_map (part_in 2) r.items)) read ∙ plain_values n values in
    not_broken bytes short None whole refl ∙ ap (λ (v : List ℕ). row_with v (row_lengths bytes)) values_are ∙ ap (λ (ns : List ℤ). row_with values ns) lengths_are ∙ with_all columns (omega arith)

both_true : (a b : Bool) → (a && b) ≡ true → a ≡ true
both_true true b e = refl
both_true false b e = cc

plain_again : FieldsAreReadAgain → (columns : List (Option (List ℕ))) → IsWithinLimits columns → is_plain columns ≡ true → row_of_message (written_row columns) ≡ Ok columns
plain_again fields [] limits is = cc
plain_again fields (column ∷ []) limits is =
    let columns = column ∷ [] in
    let as_plain : written_row columns ≡ written_fields (plain (length_number column) (written_values columns)) = ap (λ (fs : List WireField). written_fields (fs ++ text_field 2 (written_values columns))) (plain_lengths columns is) in
    let short = subst (λ (b : List ℕ). length b ≤ 2 ^ 24) as_plain limits.short in
    ap row_of_message as_plain ∙ plain_row_again fields column short
plain_again fields (one ∷ two ∷ others) limits is =
    let many : (length (one ∷ two ∷ others) == 1) ≡ true = both_true (length (one ∷ two ∷ others) == 1) (ltb (2 ^ 24) (length (written_fields (packed_fields (one ∷ two ∷ others))))) is in
    let count : length (one ∷ two ∷ others) ≡ 1 = eqb-true (length (one ∷ two ∷ others)) 1 many in
    absurd (omega (arith, count))

pub rows_read_again : FieldsAreReadAgain → NumbersAreReadAgain → RowsAreReadAgain
rows_read_again fields numbers columns limits = by (is_plain columns) refl
  where
    by : (plain : Bool) → is_plain columns ≡ plain → row_of_message (written_row columns) ≡ Ok columns
    by true is = plain_again fields columns limits is
    by false is = packed_again fields numbers columns limits is

-- ---- writing a row

-- the two parts, each behind its head, are the row
pub row_written : (old one two three four : List ℕ) (columns : List (Option (List ℕ)))
    → one ++ written_lengths columns ≡ old ++ written_fields (length_fields columns) → two ≡ one ++ written_lengths columns
    → three ++ written_values columns ≡ two ++ written_fields (text_field 2 (written_values columns)) → four ≡ three ++ written_values columns
    → four ≡ old ++ written_row columns
row_written old one two three four columns a b c d =
    let lengths = written_fields (length_fields columns) in
    let values = written_fields (text_field 2 (written_values columns)) in
    let parts : written_row columns ≡ lengths ++ values = flat_map-append written_field (length_fields columns) (text_field 2 (written_values columns)) in
    d ∙ c ∙ ap (λ (w : List ℕ). w ++ values) (b ∙ a) ∙ append_assoc old lengths values ∙ ap (λ (w : List ℕ). old ++ w) (sym parts)

-- ---- sizes

pub on_ok : {A E P Q : Type 0} (r : Result A E) → (P → Q) → OnOk r P → OnOk r Q
on_ok (Ok x) f h = f h
on_ok (Err e) f h = tt

pub if_ok : {A E : Type 0} {P Q : A → Type 0} (r : Result A E) → ((x : A) → P x → Q x) → IfOk r P → IfOk r Q
if_ok (Ok x) f h = f x h
if_ok (Err e) f h = tt

-- a row of another number of columns has its lengths packed
pub not_one : (columns : List (Option (List ℕ))) → (length columns ≡ 1 → ⊥) → is_plain columns ≡ false
not_one columns many = let e : eqb (length columns) 1 ≡ false = ne_eqb (length columns) 1 many in rw e refl

-- a row of one column has them packed unless that is longer than a row may be
pub is_one : (columns : List (Option (List ℕ))) → length columns ≡ 1 → is_plain columns ≡ ltb (2 ^ 24) (length (written_fields (packed_fields columns)))
is_one columns one = let e : eqb (length columns) 1 ≡ true = eq-eqb (length columns) 1 one in rw e refl

-- the lengths of a row, with what stands before them
pub head_plain : (columns : List (Option (List ℕ))) → is_plain columns ≡ true → written_fields (length_fields columns) ≡ shortest 8 ++ written_lengths columns
head_plain [] is = cc
head_plain (column ∷ []) is = ap written_fields (plain_lengths (column ∷ []) is) ∙ append_assoc (shortest 8) (shortest (length_number column)) []
head_plain (one ∷ two ∷ others) is =
    let many : (length (one ∷ two ∷ others) == 1) ≡ true = both_true (length (one ∷ two ∷ others) == 1) (ltb (2 ^ 24) (length (written_fields (packed_fields (one ∷ two ∷ others))))) is in
    let count : length (one ∷ two ∷ others) ≡ 1 = eqb-true (length (one ∷ two ∷ others)) 1 many in
    absurd (omega (arith, count))

-- the tag of a length in a field of its own
pub one_byte : length (shortest 8) ≡ 1
unfolding shortest varints.shortest_within
one_byte = refl

pub head_packed : (columns : List (Option (List ℕ))) → is_plain columns ≡ false → written_fields (length_fields columns) ≡ written_fields (text_field 1 (written_lengths columns))
head_packed columns is = ap written_fields (packed_lengths columns is)

-- a row is as long as its lengths and its values
pub row_length : (columns : List (Option (List ℕ))) → length (written_row columns) ≡ length (written_fields (length_fields columns)) + length (written_fields (text_field 2 (written_values columns)))
row_length columns = ap length (flat_map-append written_field (length_fields columns) (text_field 2 (written_values columns))) ∙ length-append (written_fields (length_fields columns)) (written_fields (text_field 2 (written_values columns)))

-- ---- a row in memory of its own

abbrev done : List (Option (List ℕ)) → Result (List (Option (List ℕ))) RowFault
done columns = Ok columns

done_is : (x y : List (Option (List ℕ))) → done x ≡ done y → x ≡ y
done_is x y e = cc

-- the message of columns within the limits is a row, and has them
pub written_is_row : RowsAreReadAgain → (bytes : List ℕ) (columns : List (Option (List ℕ))) → bytes ≡ written_row columns → length columns ≤ 256 → length bytes ≤ 2 ^ 24 → IsGood bytes × (columns_in bytes ≡ columns)
written_is_row law bytes columns e few short =
    let read : row_of_message bytes ≡ Ok columns = ap row_of_message e ∙ law columns (record { few = few; short = subst (λ (b : List ℕ). length b ≤ 2 ^ 24) e short }) in
    let ok : IsOk (row_of_message bytes) = subst (λ (r : Result (List (Option (List ℕ))) RowFault). IsOk r) (sym read) refl in
    let good : IsGood bytes = good-from_IsOk bytes ok in
    (good, done_is (columns_in bytes) columns (sym good ∙ read))
