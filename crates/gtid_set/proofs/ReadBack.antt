-- Printed numbers and uuids are read as what was printed.
use Rattle.std.proofs.Common.{◌≡◌, ℕ, ◌+◌, ◌*◌, ◌/◌, ◌%◌, ◌^◌, ◌<◌, ◌≤◌, ◌==◌, ◌&&◌, ◌||◌, nat_le, nat_lt, length-append, Bool, true, false, eqb, refl, ◌∙◌, ap, arith, inl, inr, List, [], ◌∷◌, ◌++◌, length, Option, Some, None, IsTrue}
use Rattle.std.specs.Option.{option_and_then}
use Rattle.std.specs.List.{AllByRecursion}
use Rattle.std.specs.Fmt.{decimal}
use Rattle.std.proofs.lemmas.Bool.{cases_lt, cond-true, cond-false, and_from, and_right, lt-ltb, le-ltb}
use Rattle.std.proofs.lemmas.Bool.Decides.{nat_tests}
use Rattle.std.proofs.lemmas.Fmt.{decimal_by_steps}
use Rattle.gtid_set.specs.Digits.{digit_of, hex_digit_of, number_behind, decimal_of, uuid_of}
use Rattle.gtid_set.specs.Printed.{hex_glyph, hex_four, group_of, uuid_text}

-- ---- plain bytes: digits, letters up to f, and hyphens

abbrev pub is_plain : ℕ → Bool
is_plain b = (nat_le 48 b && nat_le b 57) || ((nat_le 97 b && nat_le b 102) || b == 45)

abbrev pub AllPlain : List ℕ → Type 0
AllPlain text = AllByRecursion (λ b. IsTrue (is_plain b)) text

pub plain-append : (xs ys : List ℕ) → AllPlain xs → AllPlain ys → AllPlain (xs ++ ys)
plain-append [] ys p q = q
plain-append (x ∷ xs) ys p q = (p.0, plain-append xs ys p.1 q)

-- ---- digits behind a number

pub number_behind-append : (digit : ℕ → Option ℕ) (base front : ℕ) (xs ys : List ℕ) → number_behind digit base front (xs ++ ys) ≡ option_and_then (λ n. number_behind digit base n ys) (number_behind digit base front xs)
number_behind-append digit base front [] ys = refl
number_behind-append digit base front (x ∷ xs) ys = by_digit (digit x) refl (λ d. number_behind-append digit base (front * base + d) xs ys)
  where
    by_digit : (o : Option ℕ) → digit x ≡ o → ((d : ℕ) → number_behind digit base (front * base + d) (xs ++ ys) ≡ option_and_then (λ n. number_behind digit base n ys) (number_behind digit base (front * base + d) xs))
        → number_behind digit base front (x ∷ xs ++ ys) ≡ option_and_then (λ n. number_behind digit base n ys) (number_behind digit base front (x ∷ xs))
    by_digit None e rest = rw e refl
    by_digit (Some d) e rest = rw e (rest d)

pub behind-some : (digit : ℕ → Option ℕ) (base front n : ℕ) (xs ys : List ℕ) → number_behind digit base front xs ≡ Some n → number_behind digit base front (xs ++ ys) ≡ number_behind digit base n ys
behind-some digit base front n xs ys e = number_behind-append digit base front xs ys ∙ ap (λ (o : Option ℕ). option_and_then (λ n. number_behind digit base n ys) o) e

-- ---- decimal numbers

pub record IsDecimal (n : ℕ) (text : List ℕ) : Type 0 where
  pub plain : AllPlain text
  pub no_hyphen : AllByRecursion (λ b. eqb b 45 ≡ false) text
  pub some : 0 < length text
  pub value : number_behind digit_of 10 0 text ≡ Some n

digit_reads : (d : ℕ) → d < 10 → digit_of (48 + d) ≡ Some d
digit_reads d small =
    let low : nat_le 48 (48 + d) ≡ true = grind (arith, nat_tests) in
    let high : nat_le (48 + d) 57 ≡ true = grind (arith, nat_tests) in
    let both : (nat_le 48 (48 + d) && nat_le (48 + d) 57) ≡ true = and_from _ _ low high in
    cond-true (nat_le 48 (48 + d) && nat_le (48 + d) 57) _ _ both ∙ ap (λ (n : ℕ). Some n) (omega arith)

digit_plain : (d : ℕ) → d < 10 → is_plain (48 + d) ≡ true
digit_plain d small = grind (arith, nat_tests)

digit_no_hyphen : (d : ℕ) → eqb (48 + d) 45 ≡ false
digit_no_hyphen d = grind (arith, nat_tests)

all-append : (P : ℕ → Type 0) (xs ys : List ℕ) → AllByRecursion P xs → AllByRecursion P ys → AllByRecursion P (xs ++ ys)
all-append P [] ys p q = q
all-append P (x ∷ xs) ys p q = (p.0, all-append P xs ys p.1 q)

one_digit : (n : ℕ) → n < 10 → IsDecimal n ((48 + n) ∷ [])
one_digit n small = record {
  plain = (digit_plain n small, tt);
  no_hyphen = (digit_no_hyphen n, tt);
  some = omega arith;
  value = ap (λ (o : Option ℕ). option_and_then (λ d. Some (0 * 10 + d)) o) (digit_reads n small) ∙ ap (λ (n : ℕ). Some n) (omega arith);
}

one_more : (n : ℕ) (ds : List ℕ) → 10 ≤ n → IsDecimal (n / 10) ds → IsDecimal n (ds ++ ((48 + n % 10) ∷ []))
one_more n ds large h = record {
  plain = plain-append ds ((48 + n % 10) ∷ []) h.plain (digit_plain (n % 10) (omega arith), tt);
  no_hyphen = all-append (λ b. eqb b 45 ≡ false) ds ((48 + n % 10) ∷ []) h.no_hyphen (digit_no_hyphen (n % 10), tt);
  some = omega (arith, length-append ds ((48 + n % 10) ∷ []));
  value =
      behind-some digit_of 10 0 (n / 10) ds ((48 + n % 10) ∷ []) h.value
      ∙ ap (λ (o : Option ℕ). option_and_then (λ d. Some (n / 10 * 10 + d)) o) (digit_reads (n % 10) (omega arith))
      ∙ ap (λ (n : ℕ). Some n) (omega arith);
}

pub decimal-is : (n : ℕ) → n < 2 ^ 64 → IsDecimal n (decimal n)
decimal-is n small = decimal_by_steps IsDecimal one_digit one_more n small

pub decimal-read : (n : ℕ) (text : List ℕ) → IsDecimal n text → decimal_of text ≡ Some n
decimal-read n [] h = absurd (omega (arith, h.some))
decimal-read n (b ∷ text) h = h.value

-- ---- hexadecimal digits

glyph_plain : (d : ℕ) → d < 16 → is_plain (hex_glyph d) ≡ true
glyph_plain d small =
    elim (cases_lt d 10) [
      | inl low ↦ rw (cond-true (nat_lt d 10) (48 + d) (87 + d) (lt-ltb d 10 low)) (grind (arith, nat_tests))
      | inr high ↦ rw (cond-false (nat_lt d 10) (48 + d) (87 + d) (le-ltb d 10 high)) (grind (arith, nat_tests))
    ]

glyph_reads : (d : ℕ) → d < 16 → hex_digit_of (hex_glyph d) ≡ Some d
glyph_reads d small =
    elim (cases_lt d 10) [
      | inl low ↦ ap hex_digit_of (cond-true (nat_lt d 10) (48 + d) (87 + d) (lt-ltb d 10 low)) ∙ low_reads d low
      | inr high ↦ ap hex_digit_of (cond-false (nat_lt d 10) (48 + d) (87 + d) (le-ltb d 10 high)) ∙ high_reads d high small
    ]
  where
    low_reads : (d : ℕ) → d < 10 → hex_digit_of (48 + d) ≡ Some d
    low_reads d small =
        let low : nat_le 48 (48 + d) ≡ true = grind (arith, nat_tests) in
        let high : nat_le (48 + d) 57 ≡ true = grind (arith, nat_tests) in
        cond-true (nat_le 48 (48 + d) && nat_le (48 + d) 57) _ _ (and_from _ _ low high) ∙ ap (λ (n : ℕ). Some n) (omega arith)

    high_reads : (d : ℕ) → 10 ≤ d → d < 16 → hex_digit_of (87 + d) ≡ Some d
    high_reads d large small =
        let not_low : nat_le (87 + d) 57 ≡ false = grind (arith, nat_tests) in
        let low : nat_le 97 (87 + d) ≡ true = grind (arith, nat_tests) in
        let high : nat_le (87 + d) 102 ≡ true = grind (arith, nat_tests) in
        cond-false (nat_le 48 (87 + d) && nat_le (87 + d) 57) _ _ (and_right (nat_le 48 (87 + d)) _ not_low)
        ∙ cond-true (nat_le 97 (87 + d) && nat_le (87 + d) 102) _ _ (and_from _ _ low high) ∙ ap (λ (n : ℕ). Some n) (omega arith)

step_reads : (front d : ℕ) (rest : List ℕ) → d < 16 → number_behind hex_digit_of 16 front (hex_glyph d ∷ rest) ≡ number_behind hex_digit_of 16 (front * 16 + d) rest
step_reads front d rest small = ap (λ (o : Option ℕ). option_and_then (λ d. number_behind hex_digit_of 16 (front * 16 + d) rest) o) (glyph_reads d small)

pub four-reads : (front n : ℕ) (rest : List ℕ) → n < 65536 → number_behind hex_digit_of 16 front (hex_four n ++ rest) ≡ number_behind hex_digit_of 16 (front * 65536 + n) rest
four-reads front n rest small =
    step_reads front (n / 4096 % 16) (hex_glyph (n / 256 % 16) ∷ hex_glyph (n / 16 % 16) ∷ hex_glyph (n % 16) ∷ rest) (omega arith)
    ∙ step_reads (front * 16 + n / 4096 % 16) (n / 256 % 16) (hex_glyph (n / 16 % 16) ∷ hex_glyph (n % 16) ∷ rest) (omega arith)
    ∙ step_reads ((front * 16 + n / 4096 % 16) * 16 + n / 256 % 16) (n / 16 % 16) (hex_glyph (n % 16) ∷ rest) (omega arith)
    ∙ step_reads (((front * 16 + n / 4096 % 16) * 16 + n / 256 % 16) * 16 + n / 16 % 16) (n % 16) rest (omega arith)
    ∙ ap (λ (v : ℕ). number_behind hex_digit_of 16 v rest) (omega arith)

pub four-plain : (n : ℕ) → AllPlain (hex_four n)
four-plain n = (glyph_plain (n / 4096 % 16) (omega arith), (glyph_plain (n / 256 % 16) (omega arith), (glyph_plain (n / 16 % 16) (omega arith), (glyph_plain (n % 16) (omega arith), tt))))

-- ---- a uuid

abbrev pub groups_text : (a b c d e f g h : ℕ) → List ℕ
groups_text a b c d e f g h = hex_four a ++ hex_four b ++ 45 ∷ hex_four c ++ 45 ∷ hex_four d ++ 45 ∷ hex_four e ++ 45 ∷ hex_four f ++ hex_four g ++ hex_four h

four_value : (front n : ℕ) → n < 65536 → number_behind hex_digit_of 16 front (hex_four n) ≡ Some (front * 65536 + n)
four_value front n small = four-reads front n [] small

module _ (a b c d e f g h : ℕ) (sa : a < 65536) (sb : b < 65536) (sc : c < 65536) (sd : d < 65536) (se : e < 65536) (sf : f < 65536) (sg : g < 65536) (sh : h < 65536) where
  last : ℕ → Option ℕ
  last clock = number_behind hex_digit_of 16 clock (hex_four f ++ hex_four g ++ hex_four h)

  fourth : ℕ → Option ℕ
  fourth version = option_and_then last (number_behind hex_digit_of 16 version (hex_four e))

  third : ℕ → Option ℕ
  third time_mid = option_and_then fourth (number_behind hex_digit_of 16 time_mid (hex_four d))

  second : ℕ → Option ℕ
  second time_low = option_and_then third (number_behind hex_digit_of 16 time_low (hex_four c))

  last-reads : (v : ℕ) → last v ≡ Some (((v * 65536 + f) * 65536 + g) * 65536 + h)
  unfolding last
  last-reads v = four-reads v f (hex_four g ++ hex_four h) sf ∙ four-reads (v * 65536 + f) g (hex_four h) sg ∙ four_value ((v * 65536 + f) * 65536 + g) h sh

  pub groups-read : uuid_of (groups_text a b c d e f g h) ≡ Some (((((((a * 65536 + b) * 65536 + c) * 65536 + d) * 65536 + e) * 65536 + f) * 65536 + g) * 65536 + h)
  unfolding uuid_of last fourth third second
  groups-read =
      ap (λ (o : Option ℕ). option_and_then second o) (four-reads 0 a (hex_four b) sa ∙ four_value (0 * 65536 + a) b sb)
      ∙ ap (λ (o : Option ℕ). option_and_then third o) (four_value ((0 * 65536 + a) * 65536 + b) c sc)
      ∙ ap (λ (o : Option ℕ). option_and_then fourth o) (four_value (((0 * 65536 + a) * 65536 + b) * 65536 + c) d sd)
      ∙ ap (λ (o : Option ℕ). option_and_then last o) (four_value ((((0 * 65536 + a) * 65536 + b) * 65536 + c) * 65536 + d) e se)
      ∙ last-reads (((((0 * 65536 + a) * 65536 + b) * 65536 + c) * 65536 + d) * 65536 + e)
      ∙ ap (λ (n : ℕ). Some n) (omega arith)

pub group_small : (uuid place : ℕ) → group_of uuid place < 65536
group_small uuid place = omega arith

pub sum_of_groups : (u : ℕ) → u < 2 ^ 128 → ((((((group_of u 112 * 65536 + group_of u 96) * 65536 + group_of u 80) * 65536 + group_of u 64) * 65536 + group_of u 48) * 65536 + group_of u 32) * 65536 + group_of u 16) * 65536 + group_of u 0 ≡ u
sum_of_groups u small =
    let s7 : u / 2 ^ 112 % 65536 ≡ u / 2 ^ 112 = omega arith in
    let s6 : u / 2 ^ 112 * 65536 + u / 2 ^ 96 % 65536 ≡ u / 2 ^ 96 = omega arith in
    let s5 : u / 2 ^ 96 * 65536 + u / 2 ^ 80 % 65536 ≡ u / 2 ^ 80 = omega arith in
    let s4 : u / 2 ^ 80 * 65536 + u / 2 ^ 64 % 65536 ≡ u / 2 ^ 64 = omega arith in
    let s3 : u / 2 ^ 64 * 65536 + u / 2 ^ 48 % 65536 ≡ u / 2 ^ 48 = omega arith in
    let s2 : u / 2 ^ 48 * 65536 + u / 2 ^ 32 % 65536 ≡ u / 2 ^ 32 = omega arith in
    let s1 : u / 2 ^ 32 * 65536 + u / 2 ^ 16 % 65536 ≡ u / 2 ^ 16 = omega arith in
    let s0 : u / 2 ^ 16 * 65536 + u / 2 ^ 0 % 65536 ≡ u = omega arith in
    rw (s7, s6, s5, s4, s3, s2, s1, s0) refl

pub uuid-reads : (u : ℕ) → u < 2 ^ 128 → uuid_of (uuid_text u) ≡ Some u
unfolding uuid_text
uuid-reads u small =
    groups-read (group_of u 112) (group_of u 96) (group_of u 80) (group_of u 64) (group_of u 48) (group_of u 32) (group_of u 16) (group_of u 0)
    (group_small u 112) (group_small u 96) (group_small u 80) (group_small u 64) (group_small u 48) (group_small u 32) (group_small u 16) (group_small u 0)
    ∙ ap (λ (n : ℕ). Some n) (sum_of_groups u small)

hyphen-plain : (text : List ℕ) → AllPlain text → AllPlain (45 ∷ text)
hyphen-plain text p = (refl, p)

pub uuid-plain : (u : ℕ) → AllPlain (uuid_text u)
unfolding uuid_text
uuid-plain u =
    plain-append (hex_four (group_of u 112) ++ hex_four (group_of u 96) ++ 45 ∷ hex_four (group_of u 80) ++ 45 ∷ hex_four (group_of u 64) ++ 45 ∷ hex_four (group_of u 48) ++ 45 ∷ hex_four (group_of u 32) ++ hex_four (group_of u 16)) (hex_four (group_of u 0))
    (plain-append (hex_four (group_of u 112) ++ hex_four (group_of u 96) ++ 45 ∷ hex_four (group_of u 80) ++ 45 ∷ hex_four (group_of u 64) ++ 45 ∷ hex_four (group_of u 48) ++ 45 ∷ hex_four (group_of u 32)) (hex_four (group_of u 16))
    (plain-append (hex_four (group_of u 112) ++ hex_four (group_of u 96) ++ 45 ∷ hex_four (group_of u 80) ++ 45 ∷ hex_four (group_of u 64) ++ 45 ∷ hex_four (group_of u 48)) (45 ∷ hex_four (group_of u 32))
    (plain-append (hex_four (group_of u 112) ++ hex_four (group_of u 96) ++ 45 ∷ hex_four (group_of u 80) ++ 45 ∷ hex_four (group_of u 64)) (45 ∷ hex_four (group_of u 48))
    (plain-append (hex_four (group_of u 112) ++ hex_four (group_of u 96) ++ 45 ∷ hex_four (group_of u 80)) (45 ∷ hex_four (group_of u 64))
    (plain-append (hex_four (group_of u 112) ++ hex_four (group_of u 96)) (45 ∷ hex_four (group_of u 80))
    (plain-append (hex_four (group_of u 112)) (hex_four (group_of u 96)) (four-plain (group_of u 112)) (four-plain (group_of u 96)))
    (hyphen-plain (hex_four (group_of u 80)) (four-plain (group_of u 80))))
    (hyphen-plain (hex_four (group_of u 64)) (four-plain (group_of u 64))))
    (hyphen-plain (hex_four (group_of u 48)) (four-plain (group_of u 48))))
    (hyphen-plain (hex_four (group_of u 32)) (four-plain (group_of u 32))))
    (four-plain (group_of u 16)))
    (four-plain (group_of u 0))

pub uuid-length : (u : ℕ) → length (uuid_text u) ≡ 36
unfolding uuid_text
uuid-length u = refl
