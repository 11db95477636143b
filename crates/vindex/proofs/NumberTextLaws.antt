-- The shortest text of a number: it is read back, and no other is shorter.
use Rattle.std.proofs.Common.{◌≡◌, ℕ, zero, suc, ◌+◌, ◌^◌, ◌<◌, ◌≤◌, true, false, cond, ◌&&◌, eqb, ltb, List, [], ◌∷◌, length, Option, Some, None, ℤ, pos, negsuc, neg_ℤ, refl, ◌∙◌, ap, subst, arith, rules}
use Rattle.std.proofs.lemmas.Bool.{and_parts}
use Rattle.std.proofs.lemmas.Bool.Decides.{nat_tests}
use Rattle.std.proofs.lemmas.Fmt.{decimal_is_IsNumeral, decimal_digit, digits_decimal, length-decimal-le}
use Rattle.std.proofs.lemmas.Int.Digits.{digits_value-lt}
use Rattle.std.proofs.lemmas.Str.Parse.{IsNumeralModel, numerals_by_value}
use Rattle.std.specs.Char.{is_ascii_digit}
use Rattle.std.specs.Fmt.{decimal, signed_decimal}
use Rattle.std.specs.List.{list_all}
use Rattle.std.specs.Option.{option_map}
use Rattle.std.specs.Str.Parse.{digits_value}
use Rattle.vindex.specs.NumberText.{IsNumber, IsShortest, decimal_below, number_of_text}
use Rattle.vindex.proofs.NumberLemmas.{decimal_below-all}

-- decimal digits, and what they write, in std's words
own : IsNumeralModel (λ ds. list_all is_ascii_digit ds ≡ true) (digits_value 10)
own = numerals_by_value _ (search rules)

minus_is_no_digit : (c : ℕ) → is_ascii_digit c ≡ true → eqb c 45 ≡ false
minus_is_no_digit c digit = grind (arith, nat_tests)

-- digits are read as what they write
number_of_text-digits : (ds : List ℕ) → 0 < length ds → list_all is_ascii_digit ds ≡ true → digits_value 10 ds < 2 ^ 64 → number_of_text ds ≡ Some (pos (digits_value 10 ds))
unfolding number_of_text
number_of_text-digits [] some digits small = absurd (omega arith)
number_of_text-digits (c ∷ cs) some digits small =
    let first : is_ascii_digit c ≡ true = (and_parts (is_ascii_digit c) (list_all is_ascii_digit cs) digits).0 in
    rw (minus_is_no_digit c first, decimal_below-all (2 ^ 64) (c ∷ cs) some digits small)

-- digits behind a `-`
number_of_text-minus : (ds : List ℕ) → 0 < length ds → list_all is_ascii_digit ds ≡ true → digits_value 10 ds < 2 ^ 63 + 1 → number_of_text (45 ∷ ds) ≡ Some (neg_ℤ (pos (digits_value 10 ds)))
unfolding number_of_text
number_of_text-minus ds some digits small = rw (decimal_below-all (2 ^ 63 + 1) ds some digits small)

pub reads_back : (z : ℤ) → IsNumber z → number_of_text (signed_decimal z) ≡ Some z
reads_back (pos n) small =
    let is = decimal_is_IsNumeral n small in
    number_of_text-digits (decimal n) is.0.0 (digits_decimal own n small) (omega arith) ∙ ap (λ m. Some (pos m)) is.1
reads_back (negsuc n) small =
    let is = decimal_is_IsNumeral (suc n) (omega arith) in
    number_of_text-minus (decimal (suc n)) is.0.0 (digits_decimal own (suc n) (omega arith)) (omega arith) ∙ ap (λ m. Some (neg_ℤ (pos m))) is.1

-- what digits are that write a number below a limit
decimal_below-some : (limit v : ℕ) (ds : List ℕ) → decimal_below limit ds ≡ Some v → (0 < length ds) × (list_all is_ascii_digit ds ≡ true) × (digits_value 10 ds ≡ v) × (v < limit)
decimal_below-some limit v [] h = absurd (cc)
decimal_below-some limit v (d ∷ ds) h =
    elim (list_all is_ascii_digit (d ∷ ds) && ltb (digits_value 10 (d ∷ ds)) limit) as (λ b. (list_all is_ascii_digit (d ∷ ds) && ltb (digits_value 10 (d ∷ ds)) limit) ≡ b → cond b (Some (digits_value 10 (d ∷ ds))) None ≡ Some v → (0 < length (d ∷ ds)) × (list_all is_ascii_digit (d ∷ ds) ≡ true) × (digits_value 10 (d ∷ ds) ≡ v) × (v < limit)) [
      | true ↦ λ both is.
          let parts = and_parts (list_all is_ascii_digit (d ∷ ds)) (ltb (digits_value 10 (d ∷ ds)) limit) both in
          let value : digits_value 10 (d ∷ ds) ≡ v = cc in
          let below : digits_value 10 (d ∷ ds) < limit = grind (arith, nat_tests, parts.1) in
          (omega arith, parts.0, value, omega arith)
      | false ↦ λ both is. absurd (cc)
    ] refl h

-- no digits of a number are fewer than its decimal ones
length-decimal-shortest : (limit v : ℕ) (ds : List ℕ) → limit ≤ 2 ^ 64 → decimal_below limit ds ≡ Some v → length (decimal v) ≤ length ds
length-decimal-shortest limit v ds small h =
    let is = decimal_below-some limit v ds h in
    let bound : digits_value 10 ds < 10 ^ length ds = digits_value-lt 10 ds (own.to ds is.1) in
    length-decimal-le (length ds) v is.0 (omega arith) (omega arith)

shortest-minus : (v : ℕ) (rest : List ℕ) → length (decimal v) ≤ length rest → length (signed_decimal (neg_ℤ (pos v))) ≤ suc (length rest)
shortest-minus zero rest h = omega (arith, ap length (decimal_digit 0 (omega arith)))
shortest-minus (suc n) rest h = omega arith

shortest-of_minus : (z : ℤ) (rest : List ℕ) (read : Option ℕ) → decimal_below (2 ^ 63 + 1) rest ≡ read → option_map (λ n. neg_ℤ (pos n)) read ≡ Some z → length (signed_decimal z) ≤ suc (length rest)
shortest-of_minus z rest None is h = absurd (cc)
shortest-of_minus z rest (Some v) is h =
    let value : neg_ℤ (pos v) ≡ z = cc in
    subst (λ w. length (signed_decimal w) ≤ suc (length rest)) value (shortest-minus v rest (length-decimal-shortest (2 ^ 63 + 1) v rest (omega arith) is))

shortest-of_digits : (z : ℤ) (ds : List ℕ) (read : Option ℕ) → decimal_below (2 ^ 64) ds ≡ read → option_map pos read ≡ Some z → length (signed_decimal z) ≤ length ds
shortest-of_digits z ds None is h = absurd (cc)
shortest-of_digits z ds (Some v) is h =
    let value : pos v ≡ z = cc in
    subst (λ w. length (signed_decimal w) ≤ length ds) value (length-decimal-shortest (2 ^ 64) v ds (omega arith) is)

pub shortest : (z : ℤ) → IsShortest z (signed_decimal z)
unfolding number_of_text
shortest z [] h = absurd (cc)
shortest z (b ∷ rest) h =
    elim (eqb b 45) as (λ c. cond c (option_map (λ n. neg_ℤ (pos n)) (decimal_below (2 ^ 63 + 1) rest)) (option_map pos (decimal_below (2 ^ 64) (b ∷ rest))) ≡ Some z → length (signed_decimal z) ≤ length (b ∷ rest)) [
      | true ↦ λ is. shortest-of_minus z rest (decimal_below (2 ^ 63 + 1) rest) refl is
      | false ↦ λ is. shortest-of_digits z (b ∷ rest) (decimal_below (2 ^ 64) (b ∷ rest)) refl is
    ] h

pub length-shortest : (z : ℤ) → IsNumber z → length (signed_decimal z) ≤ 20
length-shortest (pos n) small = length-decimal-le 20 n (omega arith) (omega arith) small
length-shortest (negsuc n) small = omega (arith, length-decimal-le 19 (suc n) (omega arith) (omega arith) (omega arith))
