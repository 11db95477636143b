-- The table of the values of digits.
use Rattle.std.proofs.Common.{◌≡◌, ℕ, zero, suc, ◌-◌, ◌<◌, Bool, true, ◌&&◌, T, eqb, get_or, inl, inr, arith, eq-zero-or-pos, eqb→eq, Option, Some, None, sym, ap, ◌∙◌, refl}
use lib.Ieee.Fits.{and_l, and_r}
use Rattle.dump.specs.declared.row_cells.TheConstants.{DIGITS}
use Rattle.dump.specs.Private.Reading.{digit_of}
use Rattle.dump.proofs.ReadingLaws.{digit_is}

abbrev digit_or : Option ℕ → ℕ
digit_or None = 16
digit_or (Some d) = d

abbrev are_values : ℕ → Bool
are_values zero = true
are_values (suc c) = eqb (get_or DIGITS c 0) (digit_or (digit_of c)) && are_values c

below : (n c : ℕ) → T (are_values n) → c < n → get_or DIGITS c 0 ≡ digit_or (digit_of c)
below zero c t h = absurd (omega arith)
below (suc n) c t h =
    elim (eq-zero-or-pos (n - c)) [
      | inl z ↦ let e : c ≡ n = omega arith in rw e (eqb→eq _ _ (and_l _ (are_values n) t))
      | inr g ↦ below n c (and_r _ (are_values n) t) (omega arith)
    ]

DIGITS-values : (c : ℕ) → c < 256 → get_or DIGITS c 0 ≡ digit_or (digit_of c)
DIGITS-values c h = below 256 c tt h

pub some_digit : (c : ℕ) → c < 256 → get_or DIGITS c 0 < 16 → Some (get_or DIGITS c 0) ≡ digit_of c
some_digit c fits lt = by (digit_of c) refl
  where
    by : (o : Option ℕ) → digit_of c ≡ o → Some (get_or DIGITS c 0) ≡ digit_of c
    by None e = let is : get_or DIGITS c 0 ≡ 16 = DIGITS-values c fits ∙ ap digit_or e in absurd (omega (arith, is, lt))
    by (Some d) e = ap Some (DIGITS-values c fits ∙ ap digit_or e) ∙ sym e

pub no_digit : (c : ℕ) → c < 256 → 15 < get_or DIGITS c 0 → None ≡ digit_of c
no_digit c fits lt = by (digit_of c) refl
  where
    by : (o : Option ℕ) → digit_of c ≡ o → None ≡ digit_of c
    by None e = sym e
    by (Some d) e = let is : get_or DIGITS c 0 ≡ d = DIGITS-values c fits ∙ ap digit_or e in absurd (omega (arith, is, lt, (digit_is c d e).0))
