-- Numbers of several parts, of which the first that differs decides.
use Rattle.std.proofs.Common.{◌≡◌, ℕ, pos, negsuc, ◌+◌, ◌-◌, ◌*◌, ◌^◌, ◌<◌, ◌≤◌, ◌⊎◌, inl, inr, true, min, ltb, arith, eq-zero-or-pos}
use Rattle.std.proofs.lemmas.Bool.{cond-true, lt-ltb}
use Rattle.std.proofs.lemmas.Bool.Decides.{nat_tests}
use Rattle.std.specs.Ordering.{int_cmp}
use Rattle.std.specs.declared.cmp.Ordering.TheVariants.{Less}

-- the first part is less, or the second one behind equal first ones, or the third one
abbrev pub ComesFirst : ℕ → ℕ → ℕ → ℕ → ℕ → ℕ → Type 0
ComesFirst t u k l m n = (t < u) ⊎ ((t ≡ u) × ((k < l) ⊎ ((k ≡ l) × (m < n))))

pub parts_less : (t u k l m n : ℕ) → k ≤ 3 → l ≤ 3 → m < 2 ^ 54 → n < 2 ^ 54 → (4 * t + k) * 2 ^ 54 + m < (4 * u + l) * 2 ^ 54 + n → ComesFirst t u k l m n
parts_less t u k l m n few others small smaller less =
    elim (eq-zero-or-pos (u - t)) [
      | inr g ↦ inl (omega (arith, g))
      | inl z ↦ let same : t ≡ u = omega (arith, z, less, few, others, small, smaller) in
          inr (
            same,
            elim (eq-zero-or-pos (l - k)) [
              | inr g ↦ inl (omega (arith, g))
              | inl y ↦ let alike : k ≡ l = omega (arith, y, same, less, small, smaller) in inr (alike, omega (arith, same, alike, less))
            ],
          )
    ]

-- ---- numbers within 54 bits

pub none_below : 0 < 2 ^ 54
none_below = omega arith

pub natural_below : (value : ℕ) → min value (2 ^ 54 - 1) < 2 ^ 54
natural_below value = omega arith

pub negative_below : (below : ℕ) → 2 ^ 54 - 1 - below < 2 ^ 54
negative_below below = omega arith

pub natural_less : (a b : ℕ) → min a (2 ^ 54 - 1) < min b (2 ^ 54 - 1) → int_cmp (pos a) (pos b) ≡ Less
natural_less a b less = cond-true (ltb a b) _ _ (lt-ltb a b (omega (arith, less)))

pub negative_less : (a b : ℕ) → 2 ^ 54 - 1 - a < 2 ^ 54 - 1 - b → int_cmp (negsuc a) (negsuc b) ≡ Less
negative_less a b less = cond-true (ltb b a) _ _ (lt-ltb b a (omega (arith, less)))

pub upto_three : (k : ℕ) → ltb k 4 ≡ true → k ≤ 3
upto_three k is = grind (arith, nat_tests, is)
