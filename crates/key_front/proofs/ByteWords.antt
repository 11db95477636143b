-- The number of a text's first bytes keeps the order of texts.
use Rattle.std.proofs.Common.{◌≡◌, ℕ, zero, suc, ◌+◌, ◌-◌, ◌*◌, ◌/◌, ◌^◌, ◌<◌, ◌≤◌, ◌⊎◌, inl, inr, Bool, true, false, nat_lt, if◌then◌else◌, List, [], ◌∷◌, refl, ap, arith, eq-zero-or-pos}
use Rattle.std.specs.Cmp.Lexicographic.{slice_cmp}
use Rattle.std.specs.Ordering.{nat_cmp, ordering_then}
use Rattle.std.proofs.lemmas.Bool.Decides.{nat_tests}
use Rattle.std.proofs.lemmas.Cmp.{ranked}
use Rattle.std.proofs.lemmas.Nat.{mul-le}
use Rattle.std.specs.declared.cmp.Ordering.{Ordering}
use Rattle.std.specs.declared.cmp.Ordering.TheVariants.{Less, Equal, Greater}
use Rattle.key_front.specs.FirstBytes.{first_bytes}

-- of two numbers whose first digits count p each, the lesser has no greater first digit
first_digits : (p x y a b : ℕ) → b < p → x * p + a < y * p + b → x ≤ y
first_digits p zero y a b small less = omega arith
first_digits p (suc x) zero a b small less = absurd (omega (arith, small, less))
first_digits p (suc x) (suc y) a b small less =
    let rest : x * p + a < y * p + b = omega (arith, less) in
    let upto : x ≤ y = first_digits p x y a b small rest in
    omega (arith, upto)

below : (p x a : ℕ) → x < 256 → a < p → x * p + a < 256 * p
below p x a digit small =
    let most : x ≤ 255 = omega (arith, digit) in
    let product : x * p ≤ 255 * p = mul-le x p 255 p most (omega arith) in
    omega (arith, product, small)

positive : (n : ℕ) → 0 < 256 ^ n
positive zero = omega arith
positive (suc n) = let rest : 0 < 256 ^ n = positive n in omega (arith, rest)

rest_less : (p x y a b : ℕ) → x ≡ y → x * p + a < y * p + b → a < b
rest_less p x y a b same less =
    let product : x * p ≡ y * p = ap (λ (z : ℕ). z * p) same in
    omega (arith, product, less)

by_first : (x y : ℕ) (o rest : Ordering) → o ≡ nat_cmp x y → x ≤ y → (x ≡ y → rest ≡ Less) → ordering_then o rest ≡ Less
by_first x y Less rest e upto next = refl
by_first x y Equal rest e upto next = next (ranked x y Equal e)
by_first x y Greater rest e upto next =
    let more : y < x = ranked x y Greater e in
    absurd (omega (arith, more, upto))

-- a first digit and the number behind it, or the greatest there is where the digit is none
abbrev spelled : ℕ → ℕ → ℕ → Bool → ℕ
spelled p x a is_byte = if is_byte then x * p + a else 255 * p + (p - 1)

spelled_below : (p x a : ℕ) (s : Bool) → s ≡ nat_lt x 256 → a < p → spelled p x a s < 256 * p
spelled_below p x a true e small = let digit : x < 256 = grind (arith, nat_tests, e) in below p x a digit small
spelled_below p x a false e small = omega (arith, small)

first_bytes-below : (n : ℕ) (text : List ℕ) → first_bytes n text < 256 ^ n
first_bytes-below zero text = omega arith
first_bytes-below (suc n) [] = positive (suc n)
first_bytes-below (suc n) (byte ∷ text) =
    let less = spelled_below (256 ^ n) byte (first_bytes n text) (nat_lt byte 256) refl (first_bytes-below n text) in omega (arith, less)

spelled_less : (p x y a b : ℕ) (s t : Bool) → s ≡ nat_lt x 256 → t ≡ nat_lt y 256 → a < p → b < p → spelled p x a s < spelled p y b t → (x < y) ⊎ ((x ≡ y) × (a < b))
spelled_less p x y a b true true e f mine others less =
    let upto : x ≤ y = first_digits p x y a b others less in
    elim (eq-zero-or-pos (y - x)) [
      | inl z ↦ let same : x ≡ y = omega (arith, upto, z) in inr (same, rest_less p x y a b same less)
      | inr g ↦ inl (omega (arith, g))
    ]
spelled_less p x y a b true false e f mine others less = inl (grind (arith, nat_tests, e, f))
spelled_less p x y a b false true e f mine others less =
    let digit : y < 256 = grind (arith, nat_tests, f) in
    let upto : 255 ≤ y = first_digits p 255 y (p - 1) b others less in
    let same : 255 ≡ y = omega (arith, digit, upto) in
    let more : p - 1 < b = rest_less p 255 y (p - 1) b same less in
    absurd (omega (arith, more, others))
spelled_less p x y a b false false e f mine others less = absurd (omega (arith, less))

first_bytes-less : (n : ℕ) (xs ys : List ℕ) → first_bytes n xs < first_bytes n ys → slice_cmp nat_cmp xs ys ≡ Less
first_bytes-less zero xs ys less = absurd (omega (arith, less))
first_bytes-less (suc n) xs [] less = absurd (omega (arith, less))
first_bytes-less (suc n) [] (y ∷ ys) less = refl
first_bytes-less (suc n) (x ∷ xs) (y ∷ ys) less =
    elim (spelled_less (256 ^ n) x y (first_bytes n xs) (first_bytes n ys) (nat_lt x 256) (nat_lt y 256) refl refl (first_bytes-below n xs) (first_bytes-below n ys) less) [
      | inl first ↦ by_first x y (nat_cmp x y) (slice_cmp nat_cmp xs ys) refl (omega (arith, first)) (λ same. absurd (omega (arith, first, same)))
      | inr later ↦ by_first x y (nat_cmp x y) (slice_cmp nat_cmp xs ys) refl (omega (arith, later.0)) (λ same. first_bytes-less n xs ys later.1)
    ]

-- ---- 54 of the 64 bits of eight bytes

pub text_below : (text : List ℕ) → first_bytes 8 text / 2 ^ 10 < 2 ^ 54
text_below text = let less : first_bytes 8 text < 2 ^ 64 = first_bytes-below 8 text in omega (arith, less)

pub text_less : (xs ys : List ℕ) → first_bytes 8 xs / 2 ^ 10 < first_bytes 8 ys / 2 ^ 10 → slice_cmp nat_cmp xs ys ≡ Less
text_less xs ys less = first_bytes-less 8 xs ys (omega (arith, less))
