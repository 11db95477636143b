-- The table of hexadecimal digits.
use Rattle.std.proofs.Common.{◌≡◌, ℕ, zero, suc, ◌-◌, ◌<◌, ◌≤◌, Bool, true, ◌&&◌, T, eqb, get_or, Option, Some, None, ap, refl, sym, ◌∙◌, unwrap_or, ◌⊎◌, inl, inr, arith, eq-zero-or-pos, eqb→eq}
use lib.Ieee.Fits.{and_l, and_r}
use Rattle.gtid_set.specs.Digits.{hex_digit_of}
use Rattle.gtid_set.specs.declared.digits.TheConstants.{HEX_VALUES}

-- the test at the first n places holds at each
abbrev at_each : (test : ℕ → Bool) → ℕ → Bool
at_each test zero = true
at_each test (suc n) = test n && at_each test n

below : (test : ℕ → Bool) (n k : ℕ) → T (at_each test n) → k < n → T (test k)
below test zero k t h = absurd (omega arith)
below test (suc n) k t h =
    elim (eq-zero-or-pos (n - k)) [
      | inl z ↦ let e : k ≡ n = omega arith in rw e (and_l _ (at_each test n) t)
      | inr g ↦ below test n k (and_r _ (at_each test n) t) (omega arith)
    ]

abbrev is_value : ℕ → Bool
is_value b = eqb (get_or HEX_VALUES b 0) (unwrap_or (hex_digit_of b) 65536)

pub value_of : (b : ℕ) → b < 256 → get_or HEX_VALUES b 0 ≡ unwrap_or (hex_digit_of b) 65536
value_of b h = eqb→eq _ _ (below is_value 256 b tt h)

digit_small : (b d : ℕ) → hex_digit_of b ≡ Some d → d < 16
digit_small b d e = grind (arith)

-- a byte is no digit, or its value is below 16
pub digit_or_none : (b v : ℕ) → v ≡ unwrap_or (hex_digit_of b) 65536 → (hex_digit_of b ≡ None) ⊎ ((hex_digit_of b ≡ Some v) × (v < 16))
digit_or_none b v e = from (hex_digit_of b) refl e
  where
    from : (o : Option ℕ) → hex_digit_of b ≡ o → v ≡ unwrap_or o 65536 → (hex_digit_of b ≡ None) ⊎ ((hex_digit_of b ≡ Some v) × (v < 16))
    from None is e = inl is
    from (Some d) is e = inr (is ∙ ap Some (sym e), rw e (digit_small b d is))

pub value_bound : (b v : ℕ) → v ≡ unwrap_or (hex_digit_of b) 65536 → v ≤ 65536
value_bound b v e = elim (digit_or_none b v e) [
  | inl none ↦ let is : v ≡ 65536 = rw none at e in omega arith
  | inr some ↦ omega arith
]
