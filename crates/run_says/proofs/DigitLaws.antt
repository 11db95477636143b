-- Numbers and uuids as texts: what they are read as, their digits write.
use Rattle.std.proofs.Common.{◌≡◌, ℕ, suc, ◌+◌, ◌-◌, ◌*◌, ◌<◌, ◌≤◌, Bool, true, false, cond, eqb, List, [], ◌∷◌, ◌++◌, length, map, take, drop, get_or, Option, Some, None, refl, sym, ap, subst, ◌∙◌, arith, drop-cons}
use Rattle.std.specs.Prelude.{◌&&◌, nat_le, slice_index, option_and_then}
use Rattle.std.specs.List.{flat_map}
use Rattle.std.specs.Char.{digit_value}
use Rattle.std.specs.Str.Parse.{AllDigits, digits_value_after}
use Rattle.std.proofs.lemmas.Bool.{and_parts, eqb-true}
use Rattle.std.proofs.lemmas.Bool.Decides.{nat_tests}
use Rattle.std.proofs.lemmas.List.{take-append-drop, drop-drop, length-take-le, length-drop, append-nil}
use Rattle.std.proofs.Math.Seq.{take-length}
use Rattle.gtid_set.specs.Digits.{digit_of, hex_digit_of, number_behind, decimal_of, is_hyphenated, uuid_of}
use Rattle.run_says.specs.Positions.{each_behind, IsDecimal, IsUuid}

some_is : {A : Type 0} (x y : A) → Some x ≡ Some y → x ≡ y
some_is x y e = cc

-- ---- digits

abbrev IsDigit : ℕ → ℕ → ℕ → Type 0
IsDigit base b d = (digit_value b ≡ d) × (d < base)

decimal_if : (b d : ℕ) (t : Bool) → (nat_le 48 b && nat_le b 57) ≡ t → cond t (Some (b - 48)) None ≡ Some d → IsDigit 10 b d
decimal_if b d true is e =
    let same : b - 48 ≡ d = some_is (b - 48) d e in
    let value : digit_value b ≡ b - 48 = grind (arith, nat_tests) in
    let small : b - 48 < 10 = grind (arith, nat_tests) in
    (value ∙ same, subst (λ (n : ℕ). n < 10) same small)
decimal_if b d false is e = absurd cc

decimal_digit : (b d : ℕ) → digit_of b ≡ Some d → IsDigit 10 b d
decimal_digit b d e = decimal_if b d (nat_le 48 b && nat_le b 57) refl e

upper_if : (b d : ℕ) (t : Bool) → (nat_le 65 b && nat_le b 70) ≡ t → cond t (Some (b - 55)) None ≡ Some d → IsDigit 16 b d
upper_if b d true is e =
    let same : b - 55 ≡ d = some_is (b - 55) d e in
    let value : digit_value b ≡ b - 55 = grind (arith, nat_tests) in
    let small : b - 55 < 16 = grind (arith, nat_tests) in
    (value ∙ same, subst (λ (n : ℕ). n < 16) same small)
upper_if b d false is e = absurd cc

lower_if : (b d : ℕ) (t : Bool) → (nat_le 97 b && nat_le b 102) ≡ t → cond t (Some (b - 87)) (cond (nat_le 65 b && nat_le b 70) (Some (b - 55)) None) ≡ Some d → IsDigit 16 b d
lower_if b d true is e =
    let same : b - 87 ≡ d = some_is (b - 87) d e in
    let value : digit_value b ≡ b - 87 = grind (arith, nat_tests) in
    let small : b - 87 < 16 = grind (arith, nat_tests) in
    (value ∙ same, subst (λ (n : ℕ). n < 16) same small)
lower_if b d false is e = upper_if b d (nat_le 65 b && nat_le b 70) refl e

hex_if : (b d : ℕ) (t : Bool) → (nat_le 48 b && nat_le b 57) ≡ t → cond t (Some (b - 48)) (cond (nat_le 97 b && nat_le b 102) (Some (b - 87)) (cond (nat_le 65 b && nat_le b 70) (Some (b - 55)) None)) ≡ Some d → IsDigit 16 b d
hex_if b d true is e =
    let same : b - 48 ≡ d = some_is (b - 48) d e in
    let value : digit_value b ≡ b - 48 = grind (arith, nat_tests) in
    let small : b - 48 < 16 = grind (arith, nat_tests) in
    (value ∙ same, subst (λ (n : ℕ). n < 16) same small)
hex_if b d false is e = lower_if b d (nat_le 97 b && nat_le b 102) refl e

hex_digit : (b d : ℕ) → hex_digit_of b ≡ Some d → IsDigit 16 b d
hex_digit b d e = hex_if b d (nat_le 48 b && nat_le b 57) refl e

-- ---- numbers

-- the digits of a text write a number behind one in front
record Write (base front : ℕ) (text : List ℕ) (n : ℕ) : Type 0 where
  all : AllDigits base text
  value : digits_value_after base front text ≡ n

write_more : (base front b d : ℕ) (text : List ℕ) (n : ℕ) → IsDigit base b d → Write base (front * base + d) text n → Write base front (b ∷ text) n
write_more base front b d text n (value, small) rest = record {
  all = (subst (λ (x : ℕ). x < base) (sym value) small, rest.all);
  value = ap (λ x. digits_value_after base (front * base + x) text) value ∙ rest.value;
}

digits_write : (digit : ℕ → Option ℕ) (base : ℕ) → ((b d : ℕ) → digit b ≡ Some d → IsDigit base b d) → (text : List ℕ) (front n : ℕ) → number_behind digit base front text ≡ Some n → Write base front text n
digits_write digit base is [] front n e = record { all = tt; value = some_is front n e }
digits_write digit base is (b ∷ text) front n e = first (digit b) refl e (λ d h. digits_write digit base is text (front * base + d) n h)
  where
    first : (o : Option ℕ) → digit b ≡ o → option_and_then (λ d. number_behind digit base (front * base + d) text) o ≡ Some n → ((d : ℕ) → number_behind digit base (front * base + d) text ≡ Some n → Write base (front * base + d) text n) → Write base front (b ∷ text) n
    first None at h later = absurd cc
    first (Some d) at h later = write_more base front b d text n (is b d at) (later d h)

pub decimal_is : (text : List ℕ) (n : ℕ) → decimal_of text ≡ Some n → IsDecimal text n
decimal_is [] n e = absurd cc
decimal_is (b ∷ text) n e = let write = digits_write digit_of 10 decimal_digit (b ∷ text) 0 n e in ((omega arith, write.all), sym write.value)

-- ---- uuids

all_append : (base : ℕ) (xs ys : List ℕ) → AllDigits base xs → AllDigits base ys → AllDigits base (xs ++ ys)
all_append base [] ys h k = k
all_append base (x ∷ xs) ys (small, others) k = (small, all_append base xs ys others k)

value_append : (base front : ℕ) (xs ys : List ℕ) → digits_value_after base front (xs ++ ys) ≡ digits_value_after base (digits_value_after base front xs) ys
value_append base front [] ys = refl
value_append base front (x ∷ xs) ys = value_append base (front * base + digit_value x) xs ys

write_behind : (base front : ℕ) (xs ys : List ℕ) (mid n : ℕ) → Write base front xs mid → Write base mid ys n → Write base front (xs ++ ys) n
write_behind base front xs ys mid n one other = record {
  all = all_append base xs ys one.all other.all;
  value = value_append base front xs ys ∙ ap (λ m. digits_value_after base m ys) one.value ∙ other.value;
}

then_some : {A B : Type 0} (f : A → Option B) (o : Option A) (y : B) → option_and_then f o ≡ Some y → (x : A) × (o ≡ Some x) × (f x ≡ Some y)
then_some f None y e = absurd cc
then_some f (Some x) y e = (x, refl, e)

-- a group, and the hyphen behind it
group_at : (text : List ℕ) (k n : ℕ) → k + n < length text → get_or text (k + n) 0 ≡ 45 → drop k text ≡ take n (drop k text) ++ 45 ∷ drop (suc (k + n)) text
group_at text k n inside hyphen =
    sym (take-append-drop n (drop k text))
    ∙ ap (λ xs. take n (drop k text) ++ xs) (drop-drop n k text ∙ drop-cons text (k + n) 0 inside ∙ ap (λ c. c ∷ drop (suc (k + n)) text) hyphen)

group_length : (text : List ℕ) (k n : ℕ) → k + n ≤ length text → length (take n (drop k text)) ≡ n
group_length text k n inside = length-take-le n (drop k text) (omega (arith, length-drop k text, inside))

-- the hyphens of a text of 36 bytes
record HasHyphens (text : List ℕ) : Type 0 where
  long : length text ≡ 36
  first : get_or text 8 0 ≡ 45
  second : get_or text 13 0 ≡ 45
  third : get_or text 18 0 ≡ 45
  fourth : get_or text 23 0 ≡ 45

has_hyphens : (text : List ℕ) → is_hyphenated text ≡ true → HasHyphens text
has_hyphens text e =
    let a = and_parts (eqb (length text) 36) (eqb (slice_index text 8) 45 && (eqb (slice_index text 13) 45 && (eqb (slice_index text 18) 45 && eqb (slice_index text 23) 45))) e in
    let b = and_parts (eqb (slice_index text 8) 45) (eqb (slice_index text 13) 45 && (eqb (slice_index text 18) 45 && eqb (slice_index text 23) 45)) a.1 in
    let c = and_parts (eqb (slice_index text 13) 45) (eqb (slice_index text 18) 45 && eqb (slice_index text 23) 45) b.1 in
    let d = and_parts (eqb (slice_index text 18) 45) (eqb (slice_index text 23) 45) c.1 in
    record {
      long = eqb-true (length text) 36 a.0;
      first = eqb-true (slice_index text 8) 45 b.0;
      second = eqb-true (slice_index text 13) 45 c.0;
      third = eqb-true (slice_index text 18) 45 d.0;
      fourth = eqb-true (slice_index text 23) 45 d.1;
    }

abbrev groups_in : List ℕ → List (List ℕ)
groups_in text = take 8 text ∷ take 4 (drop 9 text) ∷ take 4 (drop 14 text) ∷ take 4 (drop 19 text) ∷ take 12 (drop 24 text) ∷ []

last_group : (text : List ℕ) → HasHyphens text → drop 24 text ≡ take 12 (drop 24 text)
last_group text has =
    let long : length (drop 24 text) ≡ 12 = length-drop 24 text ∙ ap (λ n. n - 24) has.long in
    sym (ap (λ n. take n (drop 24 text)) (sym long) ∙ take-length (drop 24 text))

groups_are : (text : List ℕ) → HasHyphens text → 45 ∷ text ≡ each_behind 45 (groups_in text)
groups_are text has =
    let long : length text ≡ 36 = has.long in
    let one : drop 0 text ≡ take 8 (drop 0 text) ++ 45 ∷ drop 9 text = group_at text 0 8 (omega (arith, long)) has.first in
    let two : drop 9 text ≡ take 4 (drop 9 text) ++ 45 ∷ drop 14 text = group_at text 9 4 (omega (arith, long)) has.second in
    let three : drop 14 text ≡ take 4 (drop 14 text) ++ 45 ∷ drop 19 text = group_at text 14 4 (omega (arith, long)) has.third in
    let four : drop 19 text ≡ take 4 (drop 19 text) ++ 45 ∷ drop 24 text = group_at text 19 4 (omega (arith, long)) has.fourth in
    let five : drop 24 text ≡ take 12 (drop 24 text) ++ [] = last_group text has ∙ sym (append-nil (take 12 (drop 24 text))) in
    ap (λ xs. 45 ∷ xs) one ∙ ap (λ xs. 45 ∷ take 8 text ++ 45 ∷ xs) two ∙ ap (λ xs. 45 ∷ take 8 text ++ 45 ∷ (take 4 (drop 9 text) ++ 45 ∷ xs)) three
    ∙ ap (λ xs. 45 ∷ take 8 text ++ 45 ∷ (take 4 (drop 9 text) ++ 45 ∷ (take 4 (drop 14 text) ++ 45 ∷ xs))) four
    ∙ ap (λ xs. 45 ∷ take 8 text ++ 45 ∷ (take 4 (drop 9 text) ++ 45 ∷ (take 4 (drop 14 text) ++ 45 ∷ (take 4 (drop 19 text) ++ 45 ∷ xs)))) five

five_same : (a b c d e : ℕ) → a ≡ 8 → b ≡ 4 → c ≡ 4 → d ≡ 4 → e ≡ 12 → a ∷ b ∷ c ∷ d ∷ e ∷ [] ≡ 8 ∷ 4 ∷ 4 ∷ 4 ∷ 12 ∷ []
five_same a b c d e p q r s t = rw (p, q, r, s, t) refl

group_lengths : (text : List ℕ) → HasHyphens text → map length (groups_in text) ≡ 8 ∷ 4 ∷ 4 ∷ 4 ∷ 12 ∷ []
group_lengths text has =
    let long : length text ≡ 36 = has.long in
    five_same (length (take 8 text)) (length (take 4 (drop 9 text))) (length (take 4 (drop 14 text))) (length (take 4 (drop 19 text))) (length (take 12 (drop 24 text)))
    (group_length text 0 8 (omega (arith, long))) (group_length text 9 4 (omega (arith, long))) (group_length text 14 4 (omega (arith, long))) (group_length text 19 4 (omega (arith, long))) (group_length text 24 12 (omega (arith, long)))

abbrev hex_behind : ℕ → List ℕ → Option ℕ
hex_behind front text = number_behind hex_digit_of 16 front text

abbrev groups_value : List ℕ → Option ℕ
groups_value text = option_and_then (λ low. option_and_then (λ mid. option_and_then (λ version. option_and_then (λ clock. hex_behind clock (take 12 (drop 24 text))) (hex_behind version (take 4 (drop 19 text)))) (hex_behind mid (take 4 (drop 14 text)))) (hex_behind low (take 4 (drop 9 text)))) (hex_behind 0 (take 8 text))

groups_write : (text : List ℕ) (n : ℕ) → groups_value text ≡ Some n → Write 16 0 (flat_map (λ g. g) (groups_in text)) n
groups_write text n e =
    let low = then_some (λ low. option_and_then (λ mid. option_and_then (λ version. option_and_then (λ clock. hex_behind clock (take 12 (drop 24 text))) (hex_behind version (take 4 (drop 19 text)))) (hex_behind mid (take 4 (drop 14 text)))) (hex_behind low (take 4 (drop 9 text)))) (hex_behind 0 (take 8 text)) n e in
    let mid = then_some (λ mid. option_and_then (λ version. option_and_then (λ clock. hex_behind clock (take 12 (drop 24 text))) (hex_behind version (take 4 (drop 19 text)))) (hex_behind mid (take 4 (drop 14 text)))) (hex_behind low.0 (take 4 (drop 9 text))) n low.2 in
    let version = then_some (λ version. option_and_then (λ clock. hex_behind clock (take 12 (drop 24 text))) (hex_behind version (take 4 (drop 19 text)))) (hex_behind mid.0 (take 4 (drop 14 text))) n mid.2 in
    let clock = then_some (λ clock. hex_behind clock (take 12 (drop 24 text))) (hex_behind version.0 (take 4 (drop 19 text))) n version.2 in
    let a = digits_write hex_digit_of 16 hex_digit (take 8 text) 0 low.0 low.1 in
    let b = digits_write hex_digit_of 16 hex_digit (take 4 (drop 9 text)) low.0 mid.0 mid.1 in
    let c = digits_write hex_digit_of 16 hex_digit (take 4 (drop 14 text)) mid.0 version.0 version.1 in
    let d = digits_write hex_digit_of 16 hex_digit (take 4 (drop 19 text)) version.0 clock.0 clock.1 in
    let l = digits_write hex_digit_of 16 hex_digit (take 12 (drop 24 text)) clock.0 n clock.2 in
    let e5 = write_behind 16 clock.0 (take 12 (drop 24 text)) [] n n l (record { all = tt; value = refl }) in
    let e4 = write_behind 16 version.0 (take 4 (drop 19 text)) (take 12 (drop 24 text) ++ []) clock.0 n d e5 in
    let e3 = write_behind 16 mid.0 (take 4 (drop 14 text)) (take 4 (drop 19 text) ++ (take 12 (drop 24 text) ++ [])) version.0 n c e4 in
    let e2 = write_behind 16 low.0 (take 4 (drop 9 text)) (take 4 (drop 14 text) ++ (take 4 (drop 19 text) ++ (take 12 (drop 24 text) ++ []))) mid.0 n b e3 in
    write_behind 16 0 (take 8 text) (take 4 (drop 9 text) ++ (take 4 (drop 14 text) ++ (take 4 (drop 19 text) ++ (take 12 (drop 24 text) ++ [])))) low.0 n a e2

uuid_if : (text : List ℕ) (n : ℕ) (t : Bool) → is_hyphenated text ≡ t → cond t (groups_value text) None ≡ Some n → IsUuid text n
uuid_if text n true is e =
    let has = has_hyphens text is in
    let write = groups_write text n e in
    (groups_in text, groups_are text has, group_lengths text has, write.all, sym write.value)
uuid_if text n false is e = absurd cc

pub uuid_is : (text : List ℕ) (n : ℕ) → uuid_of text ≡ Some n → IsUuid text n
unfolding uuid_of
uuid_is text n e = uuid_if text n (is_hyphenated text) refl e
