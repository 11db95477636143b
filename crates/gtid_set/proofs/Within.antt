-- Subset and union: what is computed is subset, and the union is the least set that holds both.
use Rattle.std.proofs.Common.{◌≡◌, ℕ, ◌+◌, ◌<◌, ◌≤◌, Bool, true, false, ◌⊎◌, inl, inr, refl, sym, ◌∙◌, arith, List, [], ◌∷◌}
use Rattle.std.specs.List.{AllByRecursion, list_any}
use Rattle.std.proofs.lemmas.Bool.{cases_Bool, or_cases, and_from, or_left, or_right, false≢true, and_parts}
use Rattle.std.proofs.lemmas.Bool.Decides.{nat_tests}
use Rattle.gtid_set.specs.declared.interval.Interval.{Interval}
use Rattle.gtid_set.specs.Position.{holds, has, holds_interval, union_of, IsInterval, IsCanonical, IsWithin, HasBoth, within_of}
use Rattle.gtid_set.proofs.IntervalFacts.{Holds, holds-true, true-holds}
use Rattle.gtid_set.proofs.Joined.{AllEnd, canonical-intervals, union-canonical, has-union_of}
use Rattle.gtid_set.proofs.Same.{not_behind, pair_behind, equal_sets}

-- ---- subset, computed

covers-holds : (j i : Interval) (u n : ℕ) → holds_interval j i ≡ true → holds i u n ≡ true → holds j u n ≡ true
covers-holds j i u n e h = grind (arith, nat_tests)

covered-has : (b : List Interval) (i : Interval) (u n : ℕ) → list_any (λ j. holds_interval j i) b ≡ true → holds i u n ≡ true → has b u n ≡ true
covered-has [] i u n e h = absurd (false≢true e)
covered-has (j ∷ b) i u n e h =
    elim (or_cases (holds_interval j i) (list_any (λ j. holds_interval j i) b) e) [
      | inl here ↦ or_left (holds j u n) (has b u n) (covers-holds j i u n here h)
      | inr there ↦ or_right (holds j u n) (has b u n) (covered-has b i u n there h)
    ]

pub within-pairs : (a b : List Interval) → within_of a b ≡ true → IsWithin a b
within-pairs [] b e u n h = absurd (false≢true h)
within-pairs (i ∷ a) b e u n h =
    let p = and_parts (list_any (λ j. holds_interval j i) b) (within_of a b) e in
    elim (or_cases (holds i u n) (has a u n) h) [
      | inl here ↦ covered-has b i u n p.0 here
      | inr there ↦ within-pairs a b p.1 u n there
    ]

-- an interval all of whose numbers are in a canonical set lies in one of its intervals
not_split : (y : Interval) (t : List Interval) (i : Interval) (n : ℕ) → IsInterval y → AllEnd y t → IsInterval i
    → ((n : ℕ) → i.first ≤ n → n ≤ i.last → has (y ∷ t) i.uuid n ≡ true) → holds_interval y i ≡ false → i.first ≤ n → n ≤ i.last → holds y i.uuid n ≡ true → ⊥
not_split y t i n one all whole inside not_covered low high held =
    let k = holds-true y i.uuid n held in
    let h = one.holds_first in
    elim (split y i n k not_covered low high) [
      | inl below ↦
          let out : holds y i.uuid i.first ≡ false = grind (arith, nat_tests) in
          elim (or_cases (holds y i.uuid i.first) (has t i.uuid i.first) (inside i.first (omega arith) (omega arith))) [
            | inl here ↦ false≢true (sym out ∙ here)
            | inr there ↦ elim (pair_behind y t i.uuid i.first all there) [ inl lt ↦ omega arith | inr p ↦ omega arith ]
          ]
      | inr above ↦
          let out : holds y i.uuid (y.last + 1) ≡ false = grind (arith, nat_tests) in
          let gap : has t i.uuid (y.last + 1) ≡ false = rw (← k.0) (not_behind y t (y.last + 1) all (omega arith)) in
          elim (or_cases (holds y i.uuid (y.last + 1)) (has t i.uuid (y.last + 1)) (inside (y.last + 1) (omega arith) (omega arith))) [
            | inl here ↦ false≢true (sym out ∙ here)
            | inr there ↦ false≢true (sym gap ∙ there)
          ]
    ]
  where
    split : (y i : Interval) (n : ℕ) → Holds y i.uuid n → holds_interval y i ≡ false → i.first ≤ n → n ≤ i.last → (i.first < y.first) ⊎ (y.last < i.last)
    split y i n k c low high = grind (arith, nat_tests)

covered : (b : List Interval) (i : Interval) → IsCanonical b → IsInterval i → ((n : ℕ) → i.first ≤ n → n ≤ i.last → has b i.uuid n ≡ true) → list_any (λ j. holds_interval j i) b ≡ true
covered [] i c one inside = absurd (false≢true (inside i.first (omega arith) one.holds_first))
covered (y ∷ t) i c one inside =
    elim (cases_Bool (holds_interval y i)) [
      | inl here ↦ or_left (holds_interval y i) (list_any (λ j. holds_interval j i) t) here
      | inr there ↦ or_right (holds_interval y i) (list_any (λ j. holds_interval j i) t) (covered t i c.2 one (λ n low high.
          elim (or_cases (holds y i.uuid n) (has t i.uuid n) (inside n low high)) [
            | inl held ↦ absurd (not_split y t i n c.0 c.1 one inside there low high held)
            | inr behind ↦ behind
          ]))
    ]

pub pairs-within : (a b : List Interval) → AllByRecursion IsInterval a → IsCanonical b → IsWithin a b → within_of a b ≡ true
pairs-within [] b each c w = refl
pairs-within (i ∷ a) b each c w =
    and_from (list_any (λ j. holds_interval j i) b) (within_of a b)
    (covered b i c each.0 (λ n low high. w i.uuid n (or_left (holds i i.uuid n) (has a i.uuid n) (true-holds i i.uuid n (refl, low, high)))))
    (pairs-within a b each.1 c (λ u n h. w u n (or_right (holds i u n) (has a u n) h)))

-- ---- subset is an order

pub within_itself : (a : List Interval) → IsWithin a a
within_itself a u n h = h

pub within_both_ways : (a b : List Interval) → IsCanonical a → IsCanonical b → IsWithin a b → IsWithin b a → a ≡ b
within_both_ways a b c d p q = equal_sets a b c d (λ u n. both_true (has a u n) (has b u n) (p u n) (q u n))
  where
    both_true : (x y : Bool) → (x ≡ true → y ≡ true) → (y ≡ true → x ≡ true) → x ≡ y
    both_true true y p q = sym (p refl)
    both_true false true p q = q refl
    both_true false false p q = refl

-- ---- the union

pub union-pairs : (a b : List Interval) → IsCanonical a → IsCanonical b → HasBoth a b (union_of a b)
union-pairs a b c d u n = has-union_of a b u n (canonical-intervals a c) (canonical-intervals b d)

pub canonical-union : (a b : List Interval) → IsCanonical a → IsCanonical b → IsCanonical (union_of a b)
canonical-union a b c d = union-canonical a b c (canonical-intervals b d)

pub within-union : (a b : List Interval) → IsCanonical a → IsCanonical b → IsWithin a (union_of a b) × IsWithin b (union_of a b)
within-union a b c d = (
  λ u n h. union-pairs a b c d u n ∙ or_left (has a u n) (has b u n) h,
  λ u n h. union-pairs a b c d u n ∙ or_right (has a u n) (has b u n) h,
)

pub union-within : (a b all : List Interval) → IsCanonical a → IsCanonical b → IsWithin a all → IsWithin b all → IsWithin (union_of a b) all
union-within a b all c d p q u n h = elim (or_cases (has a u n) (has b u n) (sym (union-pairs a b c d u n) ∙ h)) [ inl x ↦ p u n x | inr y ↦ q u n y ]

pub union-superset : (a b : List Interval) → IsCanonical a → IsCanonical b → IsWithin a b → (union_of a b ≡ b) × (union_of b a ≡ b)
union-superset a b c d w = (
  within_both_ways (union_of a b) b (canonical-union a b c d) d (union-within a b b c d w (within_itself b)) (within-union a b c d).1,
  within_both_ways (union_of b a) b (canonical-union b a d c) d (union-within b a b d c (within_itself b) w) (within-union b a d c).0,
)
