-- Canonical sets with the same pairs are equal, and a set is within another where each of its intervals is in one of the other.
use Rattle.std.proofs.Common.{◌≡◌, ℕ, ◌+◌, ◌<◌, ◌≤◌, Bool, true, false, ◌⊎◌, inl, inr, refl, sym, ◌∙◌, subst, arith, ◌||◌, ◌&&◌, List, [], ◌∷◌}
use Rattle.std.proofs.lemmas.Bool.{cases_Bool, or_cases, and_from, or_left, false≢true, and_parts}
use Rattle.std.proofs.lemmas.Bool.Decides.{nat_tests}
use Rattle.gtid_set.specs.declared.interval.Interval.{Interval}
use Rattle.gtid_set.specs.Position.{holds, has, ends_before, IsInterval, IsCanonical, SamePairs, same_interval as same_interval_test, same_set}
use Rattle.gtid_set.proofs.IntervalFacts.{holds-true}
use Rattle.gtid_set.proofs.Joined.{AllEnd}

-- an interval holds its first and its last number
pub holds_first : (i : Interval) → IsInterval i → holds i i.uuid i.first ≡ true
holds_first i one = let h = one.holds_first in grind (arith, nat_tests)

-- what an interval ends before holds nothing up to the number behind it
not_held : (x y : Interval) (n : ℕ) → ends_before x y ≡ true → n ≤ x.last + 1 → holds y x.uuid n ≡ false
not_held x y n e le = grind (arith, nat_tests)

pub not_behind : (x : Interval) (s : List Interval) (n : ℕ) → AllEnd x s → n ≤ x.last + 1 → has s x.uuid n ≡ false
not_behind x [] n all le = refl
not_behind x (y ∷ s) n all le = or_from (holds y x.uuid n) (has s x.uuid n) (not_held x y n all.0 le) (not_behind x s n all.1 le)
  where
    or_from : (a b : Bool) → a ≡ false → b ≡ false → (a || b) ≡ false
    or_from true b p q = absurd (false≢true (sym p))
    or_from false b p q = q

-- a pair of a set that an interval ends before lies behind it
pub pair_behind : (x : Interval) (s : List Interval) (u n : ℕ) → AllEnd x s → has s u n ≡ true → (x.uuid < u) ⊎ ((x.uuid ≡ u) × (x.last + 1 < n))
pair_behind x [] u n all h = absurd (false≢true h)
pair_behind x (y ∷ s) u n all h =
    elim (or_cases (holds y u n) (has s u n) h) [
      | inl here ↦ behind x y u n all.0 here
      | inr there ↦ pair_behind x s u n all.1 there
    ]
  where
    behind : (x y : Interval) (u n : ℕ) → ends_before x y ≡ true → holds y u n ≡ true → (x.uuid < u) ⊎ ((x.uuid ≡ u) × (x.last + 1 < n))
    behind x y u n e h = grind (arith, nat_tests)

-- the first pair of a set is its least
least : (x : Interval) (s : List Interval) (u n : ℕ) → IsInterval x → AllEnd x s → has (x ∷ s) u n ≡ true → (x.uuid < u) ⊎ ((x.uuid ≡ u) × (x.first ≤ n))
least x s u n one all h =
    let e = one.holds_first in
    elim (or_cases (holds x u n) (has s u n) h) [
      | inl here ↦ let k = holds-true x u n here in inr (k.0, k.1)
      | inr there ↦ elim (pair_behind x s u n all there) [ inl lt ↦ inl lt | inr p ↦ inr (p.0, omega arith) ]
    ]

abbrev pub Least : Interval → ℕ → ℕ → Type 0
Least x u n = (x.uuid < u) ⊎ ((x.uuid ≡ u) × (x.first ≤ n))

same_first : (x y : Interval) → Least x y.uuid y.first → Least y x.uuid x.first → (x.uuid ≡ y.uuid) × (x.first ≡ y.first)
same_first x y p q = (grind arith, grind arith)

pub same_interval : (x y : Interval) → x.uuid ≡ y.uuid → x.first ≡ y.first → x.last ≡ y.last → x ≡ y
same_interval x y p q r =
    let made : ℕ → ℕ → ℕ → Interval = λ u f l. record { uuid = u; first = f; last = l } in
    let e : made x.uuid x.first x.last ≡ made y.uuid y.first y.last = cc in
    e

no_longer : (x y : Interval) (s t : List Interval) → IsInterval x → IsInterval y → AllEnd x s → x.uuid ≡ y.uuid → x.first ≡ y.first → SamePairs (x ∷ s) (y ∷ t) → x.last < y.last → ⊥
no_longer x y s t one other all same first pairs lt =
    let k = one.holds_first in
    let inside : holds y x.uuid (x.last + 1) ≡ true = grind (arith, nat_tests) in
    let outside : holds x x.uuid (x.last + 1) ≡ false = grind (arith, nat_tests) in
    let e = pairs x.uuid (x.last + 1) in
    let p = not_behind x s (x.last + 1) all (omega arith) in
    false≢true (sym (or_false outside p) ∙ e ∙ or_left (holds y x.uuid (x.last + 1)) (has t x.uuid (x.last + 1)) inside)
  where
    or_false : {a b : Bool} → a ≡ false → b ≡ false → (a || b) ≡ false
    or_false p q = cc

-- what stands behind the same first interval has the same pairs
others : (x : Interval) (s t : List Interval) (u n : ℕ) → AllEnd x s → AllEnd x t → (holds x u n || has s u n) ≡ (holds x u n || has t u n) → has s u n ≡ has t u n
others x s t u n all each e =
    elim (cases_Bool (holds x u n)) [
      | inl here ↦
          let k = holds-true x u n here in
          let p : has s x.uuid n ≡ false = not_behind x s n all (omega arith) in
          let q : has t x.uuid n ≡ false = not_behind x t n each (omega arith) in
          cc
      | inr not_here ↦ cc
    ]

pub equal_sets : (a b : List Interval) → IsCanonical a → IsCanonical b → SamePairs a b → a ≡ b
equal_sets [] [] c d pairs = refl
equal_sets [] (y ∷ t) c d pairs = absurd (false≢true (pairs y.uuid y.first ∙ or_left (holds y y.uuid y.first) (has t y.uuid y.first) (holds_first y d.0)))
equal_sets (x ∷ s) [] c d pairs = absurd (false≢true (sym (pairs x.uuid x.first) ∙ or_left (holds x x.uuid x.first) (has s x.uuid x.first) (holds_first x c.0)))
equal_sets (x ∷ s) (y ∷ t) c d pairs =
    let here = or_left (holds x x.uuid x.first) (has s x.uuid x.first) (holds_first x c.0) in
    let there = or_left (holds y y.uuid y.first) (has t y.uuid y.first) (holds_first y d.0) in
    let first = same_first x y (least x s y.uuid y.first c.0 c.1 (pairs y.uuid y.first ∙ there)) (least y t x.uuid x.first d.0 d.1 (sym (pairs x.uuid x.first) ∙ here)) in
    let back : SamePairs (y ∷ t) (x ∷ s) = λ u n. sym (pairs u n) in
    let upper : x.last < y.last → ⊥ = no_longer x y s t c.0 d.0 c.1 first.0 first.1 pairs in
    let lower : y.last < x.last → ⊥ = no_longer y x t s d.0 c.0 d.1 (sym first.0) (sym first.1) back in
    let same : x ≡ y = same_interval x y first.0 first.1 (omega arith) in
    let rest : SamePairs s t = λ u n. others x s t u n c.1 (rw (← same) at d.1) (rw (← same) at (pairs u n)) in
    let tails : s ≡ t = equal_sets s t c.2 d.2 rest in
    cc

-- ---- equality, computed

abbrev both : Bool → Bool → Bool
both a b = a && b

pub same-equal : (a b : List Interval) → same_set a b ≡ true → a ≡ b
same-equal [] [] e = refl
same-equal [] (y ∷ b) e = absurd (false≢true e)
same-equal (x ∷ a) [] e = absurd (false≢true e)
same-equal (x ∷ a) (y ∷ b) e =
    let p = and_parts (same_interval_test x y) (same_set a b) e in
    let first : x ≡ y = same_interval x y (fields x y p.0).0 (fields x y p.0).1 (fields x y p.0).2 in
    let rest = same-equal a b p.1 in
    cc
  where
    fields : (x y : Interval) → same_interval_test x y ≡ true → (x.uuid ≡ y.uuid) × (x.first ≡ y.first) × (x.last ≡ y.last)
    fields x y e = (grind (arith, nat_tests), grind (arith, nat_tests), grind (arith, nat_tests))

same_itself : (x : Interval) → same_interval_test x x ≡ true
same_itself x = grind (arith, nat_tests)

equal_itself : (a : List Interval) → same_set a a ≡ true
equal_itself [] = refl
equal_itself (x ∷ a) = and_from (same_interval_test x x) (same_set a a) (same_itself x) (equal_itself a)

pub equal-same : (a b : List Interval) → a ≡ b → same_set a b ≡ true
equal-same a b e = subst (λ (s : List Interval). same_set a s ≡ true) e (equal_itself a)
