-- Texts of uuids are ordered as the uuids are.
use Rattle.std.proofs.Common.{◌≡◌, ℕ, ◌+◌, ◌*◌, ◌/◌, ◌%◌, ◌^◌, ◌<◌, ltb, eqb, ◌⊎◌, inl, inr, refl, ◌∙◌, ap, subst, arith, List, [], ◌∷◌, ◌++◌, length, length-append}
use Rattle.std.specs.declared.cmp.Ordering.{Ordering}
use Rattle.std.specs.declared.cmp.Ordering.TheVariants.{Less, Equal, Greater}
use Rattle.std.specs.Ordering.{nat_cmp, ordering_then}
use Rattle.std.specs.Cmp.Lexicographic.{slice_cmp}
use Rattle.std.proofs.lemmas.Bool.{cases_Bool, cond-true, cond-false, ltb-true, ltb-false, lt-ltb, le-ltb, eq-eqb}
use Rattle.std.proofs.lemmas.Bool.Decides.{nat_tests}
use Rattle.gtid_set.specs.Printed.{hex_glyph, hex_four, group_of, uuid_text}
use Rattle.gtid_set.proofs.ReadBack.{group_small, sum_of_groups}

abbrev pub IsLess : List ℕ → List ℕ → Type 0
IsLess s t = slice_cmp nat_cmp s t ≡ Less

nat_less : (a b : ℕ) → a < b → nat_cmp a b ≡ Less
nat_less a b lt = cond-true (ltb a b) _ _ (lt-ltb a b lt)

nat_same : (a : ℕ) → nat_cmp a a ≡ Equal
nat_same a = cond-false (ltb a a) _ _ (le-ltb a a (omega arith)) ∙ cond-true (eqb a a) _ _ (eq-eqb a a refl)

less_first : (x y : ℕ) (s t : List ℕ) → x < y → IsLess (x ∷ s) (y ∷ t)
less_first x y s t lt = ap (λ (o : Ordering). ordering_then o (slice_cmp nat_cmp s t)) (nat_less x y lt)

by_order : (o one other : Ordering) → ordering_then o one ≡ Less → (one ≡ Less → other ≡ Less) → ordering_then o other ≡ Less
by_order Less one other h next = refl
by_order Equal one other h next = next h
by_order Greater one other h next = h

less_append : (s t p q : List ℕ) → length s ≡ length t → IsLess s t → IsLess (s ++ p) (t ++ q)
less_append [] [] p q len h = absurd cc
less_append [] (y ∷ t) p q len h = absurd (omega (arith, len))
less_append (x ∷ s) [] p q len h = absurd (omega (arith, len))
less_append (x ∷ s) (y ∷ t) p q len h = by_order (nat_cmp x y) (slice_cmp nat_cmp s t) (slice_cmp nat_cmp (s ++ p) (t ++ q)) h (λ k. less_append s t p q (omega (arith, len)) k)

less_same : (s p q : List ℕ) → IsLess p q → IsLess (s ++ p) (s ++ q)
less_same [] p q h = h
less_same (x ∷ s) p q h = ap (λ (o : Ordering). ordering_then o (slice_cmp nat_cmp (s ++ p) (s ++ q))) (nat_same x) ∙ less_same s p q h

-- the texts of two numbers follow the numbers
record Follows (x y : ℕ) (s t : List ℕ) : Type 0 where
  less : x < y → IsLess s t
  same : x ≡ y → s ≡ t
  length : length s ≡ length t

-- a number in front of another of a base
abbrev IsSplit : ℕ → ℕ → ℕ → ℕ → ℕ → Type 0
IsSplit base x y a b = (x * base + a < y * base + b → (x < y) ⊎ ((x ≡ y) × (a < b))) × (x * base + a ≡ y * base + b → (x ≡ y) × (a ≡ b))

split_16 : (x y a b : ℕ) → a < 16 → b < 16 → IsSplit 16 x y a b
split_16 x y a b small small' = (
  λ lt. elim (cases_Bool (ltb x y)) [ inl t ↦ inl (ltb-true x y t) | inr f ↦ let le = ltb-false x y f in inr (omega arith, omega arith) ],
  λ e. (omega arith, omega arith),
)

split_65536 : (x y a b : ℕ) → a < 65536 → b < 65536 → IsSplit 65536 x y a b
split_65536 x y a b small small' = (
  λ lt. elim (cases_Bool (ltb x y)) [ inl t ↦ inl (ltb-true x y t) | inr f ↦ let le = ltb-false x y f in inr (omega arith, omega arith) ],
  λ e. (omega arith, omega arith),
)

follows-append : (base x y a b : ℕ) (s t p q : List ℕ) → IsSplit base x y a b → Follows x y s t → Follows a b p q → Follows (x * base + a) (y * base + b) (s ++ p) (t ++ q)
follows-append base x y a b s t p q split f g = record {
  less = λ lt. elim (split.0 lt) [
    | inl first ↦ less_append s t p q f.length (f.less first)
    | inr second ↦ subst (λ (u : List ℕ). IsLess (s ++ p) (u ++ q)) (f.same second.0) (less_same s p q (g.less second.1))
  ];
  same = λ e. ap (λ (u : List ℕ). u ++ p) (f.same (split.1 e).0) ∙ ap (λ (u : List ℕ). t ++ u) (g.same (split.1 e).1);
  length = omega (arith, length-append s p, length-append t q, f.length, g.length);
}

follows-hyphen : (x y : ℕ) (s t : List ℕ) → Follows x y s t → Follows x y (45 ∷ s) (45 ∷ t)
follows-hyphen x y s t f = record {
  less = λ lt. less_same (45 ∷ []) s t (f.less lt);
  same = λ e. ap (λ (u : List ℕ). 45 ∷ u) (f.same e);
  length = omega (arith, f.length);
}

glyph_less : (d e : ℕ) → d < e → e < 16 → hex_glyph d < hex_glyph e
glyph_less d e lt small = grind (arith, nat_tests)

digit : (d e : ℕ) → d < 16 → e < 16 → Follows d e (hex_glyph d ∷ []) (hex_glyph e ∷ [])
digit d e small small' = record {
  less = λ lt. less_first (hex_glyph d) (hex_glyph e) [] [] (glyph_less d e lt small');
  same = λ k. ap (λ (n : ℕ). hex_glyph n ∷ []) k;
  length = refl;
}

digits-sum : (n : ℕ) → n < 65536 → ((n / 4096 % 16 * 16 + n / 256 % 16) * 16 + n / 16 % 16) * 16 + n % 16 ≡ n
digits-sum n small = omega arith

four : (m n : ℕ) → m < 65536 → n < 65536 → Follows m n (hex_four m) (hex_four n)
four m n small small' =
    let a = m / 4096 % 16 in
    let b = m / 256 % 16 in
    let c = m / 16 % 16 in
    let d = m % 16 in
    let a' = n / 4096 % 16 in
    let b' = n / 256 % 16 in
    let c' = n / 16 % 16 in
    let d' = n % 16 in
    let first : Follows a a' (hex_glyph a ∷ []) (hex_glyph a' ∷ []) = digit a a' (omega arith) (omega arith) in
    let second = follows-append 16 a a' b b' (hex_glyph a ∷ []) (hex_glyph a' ∷ []) (hex_glyph b ∷ []) (hex_glyph b' ∷ []) (split_16 a a' b b' (omega arith) (omega arith)) first (digit b b' (omega arith) (omega arith)) in
    let third = follows-append 16 (a * 16 + b) (a' * 16 + b') c c' (hex_glyph a ∷ hex_glyph b ∷ []) (hex_glyph a' ∷ hex_glyph b' ∷ []) (hex_glyph c ∷ []) (hex_glyph c' ∷ []) (split_16 (a * 16 + b) (a' * 16 + b') c c' (omega arith) (omega arith)) second (digit c c' (omega arith) (omega arith)) in
    let fourth = follows-append 16 ((a * 16 + b) * 16 + c) ((a' * 16 + b') * 16 + c') d d' (hex_glyph a ∷ hex_glyph b ∷ hex_glyph c ∷ []) (hex_glyph a' ∷ hex_glyph b' ∷ hex_glyph c' ∷ []) (hex_glyph d ∷ []) (hex_glyph d' ∷ []) (split_16 ((a * 16 + b) * 16 + c) ((a' * 16 + b') * 16 + c') d d' (omega arith) (omega arith)) third (digit d d' (omega arith) (omega arith)) in
    subst (λ (k : ℕ). Follows k n (hex_four m) (hex_four n)) (digits-sum m small)
    (subst (λ (k : ℕ). Follows (((a * 16 + b) * 16 + c) * 16 + d) k (hex_four m) (hex_four n)) (digits-sum n small') fourth)

-- one group more, alone or behind a hyphen
more : (x y a b : ℕ) (s t : List ℕ) → a < 65536 → b < 65536 → Follows x y s t → Follows (x * 65536 + a) (y * 65536 + b) (s ++ hex_four a) (t ++ hex_four b)
more x y a b s t small small' f = follows-append 65536 x y a b s t (hex_four a) (hex_four b) (split_65536 x y a b small small') f (four a b small small')

more-hyphen : (x y a b : ℕ) (s t : List ℕ) → a < 65536 → b < 65536 → Follows x y s t → Follows (x * 65536 + a) (y * 65536 + b) (s ++ 45 ∷ hex_four a) (t ++ 45 ∷ hex_four b)
more-hyphen x y a b s t small small' f =
    follows-append 65536 x y a b s t (45 ∷ hex_four a) (45 ∷ hex_four b) (split_65536 x y a b small small') f (follows-hyphen a b (hex_four a) (hex_four b) (four a b small small'))

uuids : (u v : ℕ) → u < 2 ^ 128 → v < 2 ^ 128 → Follows u v (uuid_text u) (uuid_text v)
unfolding uuid_text
uuids u v small small' =
    let g : ℕ → ℕ → ℕ = group_of in
    let one = four (g u 112) (g v 112) (group_small u 112) (group_small v 112) in
    let two = more _ _ (g u 96) (g v 96) _ _ (group_small u 96) (group_small v 96) one in
    let three = more-hyphen _ _ (g u 80) (g v 80) _ _ (group_small u 80) (group_small v 80) two in
    let four' = more-hyphen _ _ (g u 64) (g v 64) _ _ (group_small u 64) (group_small v 64) three in
    let five = more-hyphen _ _ (g u 48) (g v 48) _ _ (group_small u 48) (group_small v 48) four' in
    let six = more-hyphen _ _ (g u 32) (g v 32) _ _ (group_small u 32) (group_small v 32) five in
    let seven = more _ _ (g u 16) (g v 16) _ _ (group_small u 16) (group_small v 16) six in
    let eight = more _ _ (g u 0) (g v 0) _ _ (group_small u 0) (group_small v 0) seven in
    subst (λ (k : ℕ). Follows k v (uuid_text u) (uuid_text v)) (sum_of_groups u small)
    (subst (λ (k : ℕ). Follows (((((((g u 112 * 65536 + g u 96) * 65536 + g u 80) * 65536 + g u 64) * 65536 + g u 48) * 65536 + g u 32) * 65536 + g u 16) * 65536 + g u 0) k (uuid_text u) (uuid_text v)) (sum_of_groups v small') eight)

pub uuid_text-less : (u v : ℕ) → u < 2 ^ 128 → v < 2 ^ 128 → u < v → IsLess (uuid_text u) (uuid_text v)
uuid_text-less u v small small' lt = (uuids u v small small').less lt
