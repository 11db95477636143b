-- The intervals that a text names are intervals of a set, and sorting makes them rise.
use Rattle.std.proofs.Common.{◌≡◌, eqb, Ordering, ◌==◌, ◌&&◌, nat_le, inl, inr, ℕ, suc, ◌+◌, ◌-◌, ◌*◌, if◌then◌else◌, ◌^◌, ◌<◌, ◌≤◌, true, false, refl, sym, ◌∙◌, ap, subst, arith, List, [], ◌∷◌, ◌++◌, length, get_or, take, drop, Option, Some, None, Result, Ok, Err}
use Rattle.std.specs.Option.{option_and_then}
use Rattle.std.specs.Ordering.{nat_cmp, is_lt, ordering_then}
use Rattle.std.specs.List.{AllByRecursion}
use Rattle.std.specs.List.Sorted.{IsSortedBy, IsPermutation}
use Rattle.std.proofs.lemmas.Bool.{cond-true, cond-false, cases_Bool, leb-true, eqb-true, and_parts}
use Rattle.std.proofs.lemmas.Bool.Decides.{nat_tests}
use Rattle.std.proofs.lemmas.Grind.{pow_more}
use Rattle.std.proofs.Math.Nat.{mul-le-mul_right}
use Rattle.std.proofs.lemmas.List.Sorted.{list_any-IsPermutation, All-permutation}
use Rattle.std.proofs.lemmas.List.Elements.{All-from_recursion, recursion_from_All}
use Rattle.gtid_set.specs.declared.interval.Interval.{Interval}
use Rattle.gtid_set.specs.declared.fault.GtidFault.{GtidFault}
use Rattle.gtid_set.specs.declared.fault.GtidFault.TheVariants.{BadNumber, Syntax}
use Rattle.list_laws.specs.Outcome.{◌>>=◌}
use Rattle.gtid_set.specs.Position.{holds, starts_by, last_number, IsInterval, SamePairs, union_of}
use Rattle.gtid_set.specs.Inner.Order.{IsRisingByStart}
use Rattle.gtid_set.specs.Blank.{trimmed, cut, parts_between}
use Rattle.gtid_set.specs.Digits.{hex_digit_of, number_behind, decimal_of, is_hyphenated, uuid_of}
use Rattle.gtid_set.specs.Text.{all_of, number_from, upper_from, interval_list, intervals_of_piece, intervals_behind, intervals_for, intervals_of_part, without_flavor, intervals_of_text}
use Rattle.gtid_set.proofs.DigitLaws.{group-length}
use Rattle.gtid_set.proofs.Joined.{union-canonical, has-union_of}
use Rattle.gtid_set.proofs.Same.{equal_sets}
use Rattle.gtid_set.proofs.Merging.{StartsAll-trans}

abbrev pub Each : List Interval → Type 0
Each l = AllByRecursion IsInterval l

pub bind_ok : {A B : Type 0} (r : Result A GtidFault) (f : A → Result B GtidFault) (y : B) → (r >>= f) ≡ Ok y → (x : A) × (r ≡ Ok x) × (f x ≡ Ok y)
bind_ok (Ok x) f y e = (x, refl, e)
bind_ok (Err d) f y e = absurd cc

abbrev done : {A : Type 0} → A → Result A GtidFault
done x = Ok x

pub ok_is : {A : Type 0} (x y : A) → done x ≡ done y → x ≡ y
ok_is x y e = cc

Each-append : (xs ys : List Interval) → Each xs → Each ys → Each (xs ++ ys)
Each-append [] ys a b = b
Each-append (x ∷ xs) ys a b = (a.0, Each-append xs ys a.1 b)

each-all_of : (step : List ℕ → Result (List Interval) GtidFault) → ((part : List ℕ) (l : List Interval) → step part ≡ Ok l → Each l) → (parts : List (List ℕ)) (l : List Interval) → all_of step parts ≡ Ok l → Each l
each-all_of step one [] l e = subst Each (ok_is [] l e) tt
each-all_of step one (part ∷ parts) l e =
    let a = bind_ok (step part) (λ front. all_of step parts >>= λ rest. Ok (front ++ rest)) l e in
    let b = bind_ok (all_of step parts) (λ rest. Ok (a.0 ++ rest)) l a.2 in
    subst Each (ok_is (a.0 ++ b.0) l b.2) (Each-append a.0 b.0 (one part a.0 a.1) (each-all_of step one parts b.0 b.1))

in_range : (low : ℕ) (o : Option ℕ) (n : ℕ) → number_from low o ≡ Ok n → (low ≤ n) × (n ≤ last_number)
in_range low None n e = absurd cc
in_range low (Some m) n e =
    elim (cases_Bool (nat_le low m && nat_le m last_number)) [
      | inl holds_it ↦
          let same : m ≡ n = ok_is m n (sym (cond-true (nat_le low m && nat_le m last_number) (done m) (Err BadNumber) holds_it) ∙ e) in
          let p = and_parts (nat_le low m) (nat_le m last_number) holds_it in
          let a = leb-true low m p.0 in
          let b = leb-true m last_number p.1 in
          (omega arith, omega arith)
      | inr fails ↦ absurd (not_ok m n (sym (cond-false (nat_le low m && nat_le m last_number) (done m) (Err BadNumber) fails) ∙ e))
    ]
  where
    not_ok : (m n : ℕ) → ◌≡◌ {A = Result ℕ GtidFault} (Err BadNumber) (Ok n) → ⊥
    not_ok m n e = cc

upper_range : (first : ℕ) (o : Option (List ℕ)) (n : ℕ) → first ≤ last_number → upper_from first o ≡ Ok n → n ≤ last_number
upper_range first None n le e = let same = ok_is first n e in omega arith
upper_range first (Some text) n le e = (in_range 0 (decimal_of text) n e).1

each-list : (uuid first last : ℕ) → uuid < 2 ^ 128 → 1 ≤ first → last ≤ last_number → Each (interval_list uuid first last)
each-list uuid first last u low high =
    elim (cases_Bool (nat_le first last)) [
      | inl holds_it ↦ rw holds_it (record { uuid = u; from_one = low; holds_first = leb-true first last holds_it; to_last = high }, tt)
      | inr fails ↦ rw fails tt
    ]

each-piece : (uuid : ℕ) → uuid < 2 ^ 128 → (piece : List ℕ) (l : List Interval) → intervals_of_piece uuid piece ≡ Ok l → Each l
unfolding intervals_of_piece
each-piece uuid u piece l e =
    let a = bind_ok (number_from 1 (decimal_of (cut 45 piece).0)) (λ first. upper_from first (cut 45 piece).1 >>= λ last. Ok (interval_list uuid first last)) l e in
    let b = bind_ok (upper_from a.0 (cut 45 piece).1) (λ last. Ok (interval_list uuid a.0 last)) l a.2 in
    let r = in_range 1 (decimal_of (cut 45 piece).0) a.0 a.1 in
    subst Each (ok_is (interval_list uuid a.0 b.0) l b.2) (each-list uuid a.0 b.0 u r.0 (upper_range a.0 (cut 45 piece).1 b.0 r.1 b.1))

each-behind : (uuid : ℕ) → uuid < 2 ^ 128 → (rest : List ℕ) (l : List Interval) → intervals_behind uuid rest ≡ Ok l → Each l
each-behind uuid u [] l e = absurd cc
each-behind uuid u (b ∷ rest) l e =
    elim (cases_Bool (b == 58)) [
      | inl holds_it ↦ each-all_of (intervals_of_piece uuid) (each-piece uuid u) (parts_between 58 rest) l (sym (cond-true (b == 58) _ _ holds_it) ∙ e)
      | inr fails ↦ absurd (not_ok l (sym (cond-false (b == 58) _ _ fails) ∙ e))
    ]
  where
    not_ok : (l : List Interval) → ◌≡◌ {A = Result (List Interval) GtidFault} (Err Syntax) (Ok l) → ⊥
    not_ok l e = cc

-- ---- a uuid has 128 bits

none_not : (d : ℕ) → ◌≡◌ {A = Option ℕ} None (Some d) → ⊥
none_not d h = cc

hex_small : (b d : ℕ) → hex_digit_of b ≡ Some d → d < 16
hex_small b d e =
    elim (cases_Bool (nat_le 48 b && nat_le b 57)) [
      | inl t ↦
          let p = and_parts (nat_le 48 b) (nat_le b 57) t in
          let high = leb-true b 57 p.1 in
          let same : b - 48 ≡ d = some_is (b - 48) d (sym (cond-true (nat_le 48 b && nat_le b 57) _ _ t) ∙ e) in
          omega arith
      | inr f ↦ second (sym (cond-false (nat_le 48 b && nat_le b 57) _ _ f) ∙ e)
    ]
  where
    some_is : (x y : ℕ) → ◌≡◌ {A = Option ℕ} (Some x) (Some y) → x ≡ y
    some_is x y h = cc

    third : (if nat_le 65 b && nat_le b 70 then Some (b - 55) else None) ≡ Some d → d < 16
    third h =
        elim (cases_Bool (nat_le 65 b && nat_le b 70)) [
          | inl t ↦
              let p = and_parts (nat_le 65 b) (nat_le b 70) t in
              let high = leb-true b 70 p.1 in
              let same : b - 55 ≡ d = some_is (b - 55) d (sym (cond-true (nat_le 65 b && nat_le b 70) _ _ t) ∙ h) in
              omega arith
          | inr f ↦ absurd (none_not d (sym (cond-false (nat_le 65 b && nat_le b 70) _ _ f) ∙ h))
        ]

    second : (if nat_le 97 b && nat_le b 102 then Some (b - 87) else (if nat_le 65 b && nat_le b 70 then Some (b - 55) else None)) ≡ Some d → d < 16
    second h =
        elim (cases_Bool (nat_le 97 b && nat_le b 102)) [
          | inl t ↦
              let p = and_parts (nat_le 97 b) (nat_le b 102) t in
              let high = leb-true b 102 p.1 in
              let same : b - 87 ≡ d = some_is (b - 87) d (sym (cond-true (nat_le 97 b && nat_le b 102) _ _ t) ∙ h) in
              omega arith
          | inr f ↦ third (sym (cond-false (nat_le 97 b && nat_le b 102) _ _ f) ∙ h)
        ]

bind_some : {A B : Type 0} (o : Option A) (f : A → Option B) (y : B) → option_and_then f o ≡ Some y → (x : A) × (o ≡ Some x) × (f x ≡ Some y)
bind_some (Some x) f y e = (x, refl, e)
bind_some None f y e = absurd cc

room : (front d r v : ℕ) → d < 16 → v + 1 ≤ (front * 16 + d + 1) * 16 ^ r → v + 1 ≤ (front + 1) * 16 ^ suc r
room front d r v small h =
    let k : suc r ≡ r + 1 = omega arith in
    let e : 16 ^ suc r ≡ 16 ^ r * 16 = ap (λ (k : ℕ). 16 ^ k) k ∙ pow_more 16 r in
    let le : (front * 16 + d + 1) * 16 ^ r ≤ ((front + 1) * 16) * 16 ^ r = mul-le-mul_right (16 ^ r) (omega arith) in
    rw e (omega arith)

pub number-small : (front : ℕ) (text : List ℕ) (v : ℕ) → number_behind hex_digit_of 16 front text ≡ Some v → v + 1 ≤ (front + 1) * 16 ^ length text
number-small front [] v e = let same : front ≡ v = some_is front v e in omega arith
  where
    some_is : (x y : ℕ) → ◌≡◌ {A = Option ℕ} (Some x) (Some y) → x ≡ y
    some_is x y h = cc
number-small front (b ∷ text) v e =
    let a = bind_some (hex_digit_of b) (λ d. number_behind hex_digit_of 16 (front * 16 + d) text) v e in
    room front a.0 (length text) v (hex_small b a.0 a.1) (number-small (front * 16 + a.0) text v a.2)

pub uuid-small : (text : List ℕ) (uuid : ℕ) → uuid_of text ≡ Some uuid → uuid < 2 ^ 128
unfolding uuid_of
uuid-small text uuid e =
    elim (cases_Bool (is_hyphenated text)) [
      | inl t ↦ groups (sym (cond-true (is_hyphenated text) _ _ t) ∙ e) (eqb-true (length text) 36 (and_parts (eqb (length text) 36) _ t).0)
      | inr f ↦ absurd (none_not uuid (sym (cond-false (is_hyphenated text) _ _ f) ∙ e))
    ]
  where
    last : ℕ → Option ℕ
    last clock = number_behind hex_digit_of 16 clock (take 12 (drop 24 text))

    fourth : ℕ → Option ℕ
    fourth version = option_and_then last (number_behind hex_digit_of 16 version (take 4 (drop 19 text)))

    third : ℕ → Option ℕ
    third time_mid = option_and_then fourth (number_behind hex_digit_of 16 time_mid (take 4 (drop 14 text)))

    second : ℕ → Option ℕ
    second time_low = option_and_then third (number_behind hex_digit_of 16 time_low (take 4 (drop 9 text)))

    groups : option_and_then second (number_behind hex_digit_of 16 0 (take 8 text)) ≡ Some uuid → length text ≡ 36 → uuid < 2 ^ 128
    groups h len =
        let a = bind_some (number_behind hex_digit_of 16 0 (take 8 text)) second uuid h in
        let b = bind_some (number_behind hex_digit_of 16 a.0 (take 4 (drop 9 text))) third uuid a.2 in
        let c = bind_some (number_behind hex_digit_of 16 b.0 (take 4 (drop 14 text))) fourth uuid b.2 in
        let d = bind_some (number_behind hex_digit_of 16 c.0 (take 4 (drop 19 text))) last uuid c.2 in
        let one : a.0 + 1 ≤ 16 ^ 8 = rw (group-length text 0 8 len (omega arith)) at (number-small 0 (take 8 text) a.0 a.1) in
        let two : b.0 + 1 ≤ (a.0 + 1) * 16 ^ 4 = rw (group-length text 9 4 len (omega arith)) at (number-small a.0 (take 4 (drop 9 text)) b.0 b.1) in
        let three : c.0 + 1 ≤ (b.0 + 1) * 16 ^ 4 = rw (group-length text 14 4 len (omega arith)) at (number-small b.0 (take 4 (drop 14 text)) c.0 c.1) in
        let four : d.0 + 1 ≤ (c.0 + 1) * 16 ^ 4 = rw (group-length text 19 4 len (omega arith)) at (number-small c.0 (take 4 (drop 19 text)) d.0 d.1) in
        let five : uuid + 1 ≤ (d.0 + 1) * 16 ^ 12 = rw (group-length text 24 12 len (omega arith)) at (number-small d.0 (take 12 (drop 24 text)) uuid d.2) in
        omega arith

-- ---- a whole text

each-for : (o : Option ℕ) (rest : List ℕ) (l : List Interval) → ((uuid : ℕ) → o ≡ Some uuid → uuid < 2 ^ 128) → intervals_for o rest ≡ Ok l → Each l
each-for None rest l small e = absurd cc
each-for (Some uuid) rest l small e = each-behind uuid (small uuid refl) rest l e

each-part : (part : List ℕ) (l : List Interval) → intervals_of_part part ≡ Ok l → Each l
unfolding intervals_of_part
each-part [] l e = subst Each (ok_is [] l e) tt
each-part (b ∷ part) l e = each-for (uuid_of (take 36 (b ∷ part))) (drop 36 (b ∷ part)) l (λ uuid h. uuid-small (take 36 (b ∷ part)) uuid h) e

pub each-named : (text : List ℕ) (l : List Interval) → intervals_of_text text ≡ Ok l → Each l
unfolding intervals_of_text
each-named text l e =
    let a = bind_ok (without_flavor (trimmed text)) (λ parts. all_of (λ part. intervals_of_part (trimmed part)) (parts_between 44 parts)) l e in
    each-all_of (λ part. intervals_of_part (trimmed part)) (λ part l h. each-part (trimmed part) l h) (parts_between 44 a.0) l a.2

-- ---- sorted intervals rise

abbrev pub interval_cmp : Interval → Interval → Ordering
interval_cmp a b = ordering_then (nat_cmp a.uuid b.uuid) (ordering_then (nat_cmp a.first b.first) (nat_cmp a.last b.last))

starts-sorted : (a b : Interval) → is_lt (interval_cmp b a) ≡ false → starts_by a b ≡ true
starts-sorted a b e = grind (arith, nat_tests)

pub sorted-rising : (s : List Interval) → IsSortedBy (λ a b. is_lt (interval_cmp a b)) s → IsRisingByStart s
sorted-rising [] h = tt
sorted-rising (a ∷ []) h = (tt, tt)
sorted-rising (a ∷ b ∷ s) h =
    let rest : IsRisingByStart (b ∷ s) = sorted-rising (b ∷ s) (λ k d low high.
    let e : suc k + 1 ≡ suc (k + 1) = omega arith in
    subst (λ (j : ℕ). is_lt (interval_cmp (get_or (a ∷ b ∷ s) j d) (get_or (b ∷ s) k d)) ≡ false) e (h (suc k) d (omega arith) (omega arith))) in
    let first : starts_by a b ≡ true = starts-sorted a b (h 0 a (omega arith) (omega arith)) in
    ((first, StartsAll-trans a b s first rest.0), rest)

-- the same intervals in another order have the same pairs
pub has-permutation : (xs ys : List Interval) → IsPermutation xs ys → SamePairs xs ys
has-permutation xs ys p u n = list_any-IsPermutation (λ (i : Interval). holds i u n) xs ys p

pub Each-permutation : (xs ys : List Interval) → IsPermutation xs ys → Each xs → Each ys
Each-permutation xs ys p each = recursion_from_All IsInterval ys (All-permutation IsInterval xs ys p (All-from_recursion IsInterval xs each))

-- the set of sorted intervals is that of the intervals
pub set-sorted : (named sorted : List Interval) → IsPermutation named sorted → Each named → union_of [] sorted ≡ union_of [] named
set-sorted named sorted p each =
    let each' = Each-permutation named sorted p each in
    equal_sets (union_of [] sorted) (union_of [] named) (union-canonical [] sorted tt each') (union-canonical [] named tt each) (λ u n.
    has-union_of [] sorted u n tt each' ∙ sym (has-permutation named sorted p u n) ∙ sym (has-union_of [] named u n tt each))
