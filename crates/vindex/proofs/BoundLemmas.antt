-- What the hexadecimal digits of a bound write, pair by pair.
use Rattle.std.proofs.Common.{◌≡◌, length-drop, ℕ, zero, suc, ◌+◌, ◌*◌, ◌/◌, ◌%◌, ◌-◌, ◌<◌, ◌≤◌, ◌≢◌, ◌⊎◌, inl, inr, eqb, ltb, Bool, true, false, List, [], ◌∷◌, length, get_or, take, drop, Option, Some, None, Result, Ok, Err, refl, sym, ◌∙◌, ap, subst, arith}
use Rattle.std.specs.Cmp.Lexicographic.{slice_cmp}
use Rattle.std.specs.List.{list_all, suffix_len}
use Rattle.std.specs.Ordering.{nat_cmp, is_lt}
use Rattle.std.specs.Result.{result_ok}
use Rattle.std.proofs.lemmas.Bool.{and_parts, cases_lt, false≢true, lt-ltb, le-ltb}
use Rattle.std.proofs.lemmas.Bool.Decides.{nat_tests}
use Rattle.std.proofs.lemmas.List.{drop_more, length-take-le, take_all}
use Rattle.std.proofs.lemmas.List.Sums.{list_all-from_AllPass}
use Rattle.hex.specs.Hex.{decode_of, decode_pairs, digit_or_error, hex_digit_value, is_hex_digit, pair_value, value_at}
use Rattle.hex.specs.declared.error.FromHexError.{FromHexError}
use Rattle.hex.proofs.HexLemmas.{decode_of-even, decode_of-odd, decode_of-ok}
use Rattle.hex.proofs.Pairs.{cons_byte, decode_pairs-ok_pair}
use Rattle.std.specs.Option.{option_map}
use Rattle.vindex.specs.Bounds.{without_end_zeros}
use Rattle.vindex.specs.BoundDigits.{hex_value_of, bytes_of_pairs}
use Rattle.vindex.specs.RangeText.{bytes_of_hex}

digit_or_error-some : (c i : ℕ) (value : Option ℕ) → hex_digit_value c ≡ value → is_hex_digit c ≡ true → digit_or_error c i value ≡ Ok (hex_value_of c)
digit_or_error-some c i (Some v) is digit = cc
digit_or_error-some c i None is digit = absurd (cc)

pair_value-digits : (high low i : ℕ) → is_hex_digit high ≡ true → is_hex_digit low ≡ true → pair_value high low i ≡ Ok (hex_value_of high * 16 + hex_value_of low)
pair_value-digits high low i is_high is_low =
    let h : value_at high i ≡ Ok (hex_value_of high) = digit_or_error-some high i (hex_digit_value high) refl is_high in
    let l : value_at low (i + 1) ≡ Ok (hex_value_of low) = digit_or_error-some low (i + 1) (hex_digit_value low) refl is_low in
    rw (h, l) refl

decode_pairs-digits : (i : ℕ) (s : List ℕ) → length s % 2 ≡ 0 → list_all is_hex_digit s ≡ true → decode_pairs i s ≡ Ok (bytes_of_pairs s)
unfolding decode_pairs
decode_pairs-digits i [] even digits = refl
decode_pairs-digits i (d ∷ []) even digits = absurd (omega arith)
decode_pairs-digits i (high ∷ low ∷ rest) even digits =
    let first = and_parts (is_hex_digit high) (list_all is_hex_digit (low ∷ rest)) digits in
    let second = and_parts (is_hex_digit low) (list_all is_hex_digit rest) first.1 in
    decode_pairs-ok_pair i high low _ rest (pair_value-digits high low i first.0 second.0)
    ∙ ap (cons_byte (hex_value_of high * 16 + hex_value_of low)) (decode_pairs-digits (i + 2) rest (omega arith) second.1)

-- an even number of digits
pub decode_of-digits : (s : List ℕ) → length s % 2 ≡ 0 → list_all is_hex_digit s ≡ true → decode_of s ≡ Ok (bytes_of_pairs s)
decode_of-digits s even digits = decode_of-even s even ∙ decode_pairs-digits 0 s even digits

-- an odd number of bytes
pub bytes_of_hex-odd : (s : List ℕ) → length s % 2 ≡ 1 → bytes_of_hex s ≡ None
bytes_of_hex-odd s odd = ap (λ r. result_ok r) (decode_of-odd s odd)

stray : (s : List ℕ) (r : Result (List ℕ) FromHexError) → decode_of s ≡ r → list_all is_hex_digit s ≡ false → result_ok r ≡ None
stray s (Ok bytes) is other = absurd (false≢true (sym other ∙ list_all-from_AllPass is_hex_digit s (decode_of-ok s bytes is).1))
stray s (Err e) is other = refl

-- a byte that is no digit
pub bytes_of_hex-stray : (s : List ℕ) → list_all is_hex_digit s ≡ false → bytes_of_hex s ≡ None
bytes_of_hex-stray s other = stray s (decode_of s) refl other

pub length-bytes_of_pairs : (s : List ℕ) → length (bytes_of_pairs s) ≡ length s / 2
length-bytes_of_pairs [] = refl
length-bytes_of_pairs (d ∷ []) = refl
length-bytes_of_pairs (high ∷ low ∷ rest) = omega (arith, length-bytes_of_pairs rest)

pub get_or-bytes_of_pairs : (s : List ℕ) (i : ℕ) → 2 * i + 1 < length s → get_or (bytes_of_pairs s) i 0 ≡ hex_value_of (get_or s (2 * i) 0) * 16 + hex_value_of (get_or s (2 * i + 1) 0)
get_or-bytes_of_pairs [] i inside = absurd (omega arith)
get_or-bytes_of_pairs (d ∷ []) i inside = absurd (omega arith)
get_or-bytes_of_pairs (high ∷ low ∷ rest) zero inside = refl
get_or-bytes_of_pairs (high ∷ low ∷ rest) (suc i) inside =
    let even : 2 * suc i ≡ suc (suc (2 * i)) = omega arith in
    let odd : 2 * suc i + 1 ≡ suc (suc (2 * i + 1)) = omega arith in
    subst (λ j. get_or (bytes_of_pairs rest) i 0 ≡ hex_value_of (get_or (high ∷ low ∷ rest) j 0) * 16 + hex_value_of (get_or (high ∷ low ∷ rest) (2 * suc i + 1) 0)) (sym even)
    (subst (λ j. get_or (bytes_of_pairs rest) i 0 ≡ hex_value_of (get_or rest (2 * i) 0) * 16 + hex_value_of (get_or (high ∷ low ∷ rest) j 0)) (sym odd) (get_or-bytes_of_pairs rest i (omega arith)))

-- the first pairs write the first bytes
bytes_of_pairs-take : (n : ℕ) (s : List ℕ) → bytes_of_pairs (take (2 * n) s) ≡ take n (bytes_of_pairs s)
bytes_of_pairs-take zero s = refl
bytes_of_pairs-take (suc n) [] = ap (λ s. bytes_of_pairs s) (take_all (2 * suc n) [] (omega arith))
bytes_of_pairs-take (suc n) (d ∷ []) =
    let two : 2 * suc n ≡ suc (suc (2 * n)) = omega arith in
    rw two refl
bytes_of_pairs-take (suc n) (high ∷ low ∷ rest) =
    let two : 2 * suc n ≡ suc (suc (2 * n)) = omega arith in
    rw two (ap (λ bytes. (hex_value_of high * 16 + hex_value_of low) ∷ bytes) (bytes_of_pairs-take n rest))

list_all-take : (p : ℕ → Bool) (n : ℕ) (s : List ℕ) → list_all p s ≡ true → list_all p (take n s) ≡ true
list_all-take p zero s all = refl
list_all-take p (suc n) [] all = refl
list_all-take p (suc n) (x ∷ s) all =
    let parts = and_parts (p x) (list_all p s) all in
    rw parts.0 (list_all-take p n s parts.1)

-- the first digits of a bound
pub decode_of-take : (n : ℕ) (s : List ℕ) → 2 * n ≤ length s → list_all is_hex_digit s ≡ true → decode_of (take (2 * n) s) ≡ Ok (bytes_of_pairs (take (2 * n) s))
decode_of-take n s within digits =
    let len : length (take (2 * n) s) ≡ 2 * n = length-take-le (2 * n) s within in
    decode_of-digits (take (2 * n) s) (omega arith) (list_all-take is_hex_digit (2 * n) s digits)

-- the bound that digits write, by as many of them as are kept
pub bound_is : (n : ℕ) (s : List ℕ) → length s % 2 ≡ 0 → list_all is_hex_digit s ≡ true → n ≡ length (bytes_of_pairs s) - suffix_len (λ byte. eqb byte 0) (bytes_of_pairs s) → Some (bytes_of_pairs (take (2 * n) s)) ≡ option_map without_end_zeros (bytes_of_hex s)
bound_is n s even digits is =
    ap (λ bytes. Some bytes) (bytes_of_pairs-take n s ∙ ap (λ k. take k (bytes_of_pairs s)) is)
    ∙ sym (ap (λ r. option_map without_end_zeros (result_ok r)) (decode_of-digits s even digits))

-- ---- the order of two bounds

-- the same byte in front of both
pub slice_cmp-same : (xs ys : List ℕ) (i : ℕ) → i < length xs → i < length ys → get_or xs i 0 ≡ get_or ys i 0 → slice_cmp nat_cmp (drop i xs) (drop i ys) ≡ slice_cmp nat_cmp (drop (i + 1) xs) (drop (i + 1) ys)
slice_cmp-same xs ys i in_xs in_ys same = rw (drop_more xs i 0 in_xs, drop_more ys i 0 in_ys, same) (grind (arith, nat_tests))

-- two bytes that differ
pub slice_cmp-other : (xs ys : List ℕ) (i : ℕ) → i < length xs → i < length ys → get_or xs i 0 ≢ get_or ys i 0 → is_lt (slice_cmp nat_cmp (drop i xs) (drop i ys)) ≡ ltb (get_or xs i 0) (get_or ys i 0)
slice_cmp-other xs ys i in_xs in_ys other = rw (drop_more xs i 0 in_xs, drop_more ys i 0 in_ys) (grind (arith, nat_tests))

slice_cmp-end : (xs ys : List ℕ) → (length xs ≡ 0) ⊎ (length ys ≡ 0) → is_lt (slice_cmp nat_cmp xs ys) ≡ ltb (length xs) (length ys)
slice_cmp-end [] [] h = refl
slice_cmp-end [] (y ∷ ys) h = sym (lt-ltb 0 (length (y ∷ ys)) (omega arith))
slice_cmp-end (x ∷ xs) [] h = sym (le-ltb (length (x ∷ xs)) 0 (omega arith))
slice_cmp-end (x ∷ xs) (y ∷ ys) (inl h) = absurd (omega arith)
slice_cmp-end (x ∷ xs) (y ∷ ys) (inr h) = absurd (omega arith)

ltb-minus : (a b i : ℕ) → i ≤ a → i ≤ b → ltb a b ≡ ltb (a - i) (b - i)
ltb-minus a b i in_a in_b =
    elim (cases_lt a b) [
      | inl less ↦ lt-ltb a b less ∙ sym (lt-ltb (a - i) (b - i) (omega arith))
      | inr least ↦ le-ltb a b least ∙ sym (le-ltb (a - i) (b - i) (omega arith))
    ]

-- nothing is left of one of both
pub slice_cmp-done : (xs ys : List ℕ) (i : ℕ) → i ≤ length xs → i ≤ length ys → (length xs ≤ i) ⊎ (length ys ≤ i) → ltb (length xs) (length ys) ≡ is_lt (slice_cmp nat_cmp (drop i xs) (drop i ys))
slice_cmp-done xs ys i in_xs in_ys done =
    let left_xs = length-drop i xs in
    let left_ys = length-drop i ys in
    let none : (length (drop i xs) ≡ 0) ⊎ (length (drop i ys) ≡ 0) = elim done [ inl h ↦ inl (omega arith) | inr h ↦ inr (omega arith) ] in
    ltb-minus (length xs) (length ys) i in_xs in_ys
    ∙ ap (λ n. ltb n (length ys - i)) (sym left_xs)
    ∙ ap (λ n. ltb (length (drop i xs)) n) (sym left_ys)
    ∙ sym (slice_cmp-end (drop i xs) (drop i ys) none)
