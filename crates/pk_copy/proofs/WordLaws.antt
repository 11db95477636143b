-- The number that a text's first bytes spell keeps the order of texts.
use Rattle.std.proofs.Common.{◌≡◌, ℕ, zero, suc, ◌+◌, ◌*◌, ◌^◌, ◌<◌, ◌≤◌, List, [], ◌∷◌, length, drop, refl, sym, ap, ◌∙◌, arith}
use Rattle.std.specs.Cmp.Lexicographic.{slice_cmp}
use Rattle.std.specs.Ordering.{nat_cmp, ordering_then}
use Rattle.std.proofs.lemmas.Cmp.{ranked, tied_itself}
use Rattle.std.specs.Cmp.{nat_cmp_total}
use Rattle.std.proofs.lemmas.Nat.{mul-le, same_from_place}
use Rattle.std.specs.declared.cmp.Ordering.{Ordering}
use Rattle.std.specs.declared.cmp.Ordering.TheVariants.{Less, Equal, Greater}
use Rattle.pk_copy.specs.KeyFront.{word, BeginsInBytes}

-- of two numbers whose first digits count p each, the lesser has no greater first digit
first_digits : (p x y a b : ℕ) → b < p → x * p + a < y * p + b → x ≤ y
first_digits p zero y a b small less = omega arith
first_digits p (suc x) zero a b small less = absurd (omega (arith, small, less))
first_digits p (suc x) (suc y) a b small less =
    let rest : x * p + a < y * p + b = omega (arith, less) in
    let upto : x ≤ y = first_digits p x y a b small rest in
    omega (arith, upto)

below : (p x a : ℕ) → x < 256 → a < p → x * p + a < 256 * p
below p x a digit small =
    let most : x ≤ 255 = omega (arith, digit) in
    let product : x * p ≤ 255 * p = mul-le x p 255 p most (omega arith) in
    omega (arith, product, small)

positive : (n : ℕ) → 0 < 256 ^ n
positive zero = omega arith
positive (suc n) = let rest : 0 < 256 ^ n = positive n in omega (arith, rest)

pub word_below : (n : ℕ) (text : List ℕ) → BeginsInBytes n text → word n text < 256 ^ n
word_below zero text are = omega arith
word_below (suc n) [] are = positive (suc n)
word_below (suc n) (byte ∷ text) are =
    let less : byte * 256 ^ n + word n text < 256 * 256 ^ n = below (256 ^ n) byte (word n text) are.0 (word_below n text are.1) in
    omega (arith, less)

by_first : (x y : ℕ) (o rest : Ordering) → o ≡ nat_cmp x y → x ≤ y → (x ≡ y → rest ≡ Less) → ordering_then o rest ≡ Less
by_first x y Less rest e upto next = refl
by_first x y Equal rest e upto next = next (ranked x y Equal e)
by_first x y Greater rest e upto next =
    let more : y < x = ranked x y Greater e in
    absurd (omega (arith, more, upto))

rest_less : (p x y a b : ℕ) → x ≡ y → x * p + a < y * p + b → a < b
rest_less p x y a b same less =
    let product : x * p ≡ y * p = ap (λ (z : ℕ). z * p) same in
    omega (arith, product, less)

pub words_in_order : (n : ℕ) (xs ys : List ℕ) → BeginsInBytes n ys → word n xs < word n ys → slice_cmp nat_cmp xs ys ≡ Less
words_in_order zero xs ys are less = absurd (omega (arith, less))
words_in_order (suc n) xs [] are less = absurd (omega (arith, less))
words_in_order (suc n) [] (y ∷ ys) are less = refl
words_in_order (suc n) (x ∷ xs) (y ∷ ys) are less =
    by_first x y (nat_cmp x y) (slice_cmp nat_cmp xs ys) refl (first_digits (256 ^ n) x y (word n xs) (word n ys) (word_below n ys are.1) less)
    (λ same. words_in_order n xs ys are.1 (rest_less (256 ^ n) x y (word n xs) (word n ys) same less))

-- texts that begin with one word are in the order of what stands behind it
pub words_tie : (n : ℕ) (xs ys : List ℕ) → n ≤ length xs → n ≤ length ys → BeginsInBytes n xs → BeginsInBytes n ys → word n xs ≡ word n ys
    → slice_cmp nat_cmp xs ys ≡ slice_cmp nat_cmp (drop n xs) (drop n ys)
words_tie zero xs ys long longer are others same = refl
words_tie (suc n) [] ys long longer are others same = absurd (omega (arith, long))
words_tie (suc n) (x ∷ xs) [] long longer are others same = absurd (omega (arith, longer))
words_tie (suc n) (x ∷ xs) (y ∷ ys) long longer are others same =
    let parts = same_from_place x (word n xs) y (word n ys) (256 ^ n) (word_below n xs are.1) (word_below n ys others.1) same in
    let tie : nat_cmp x y ≡ Equal = ap (λ (z : ℕ). nat_cmp x z) (sym parts.0) ∙ tied_itself nat_cmp_total x in
    ap (λ (o : Ordering). ordering_then o (slice_cmp nat_cmp xs ys)) tie ∙ words_tie n xs ys (omega (arith, long)) (omega (arith, longer)) are.1 others.1 parts.1
