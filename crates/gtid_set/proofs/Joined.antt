-- A set and one interval more: the pairs that it has, and that it stays canonical.
use Rattle.std.proofs.Common.{◌≡◌, ℕ, Bool, true, false, inl, inr, refl, sym, ◌∙◌, ap, arith, IsTrue, ◌||◌, List, [], ◌∷◌}
use Rattle.std.specs.List.{AllByRecursion}
use Rattle.std.proofs.lemmas.Bool.{cases_Bool, cond-true, cond-false}
use Rattle.std.proofs.lemmas.Bool.Decides.{nat_tests}
use Rattle.gtid_set.specs.declared.interval.Interval.{Interval}
use Rattle.gtid_set.specs.Position.{holds, has, ends_before, hull, with_interval, union_of, IsInterval, IsCanonical}
use Rattle.gtid_set.proofs.IntervalFacts.{holds-hull, ends-trans}

-- ---- the three cases

pub joined-front : (x : Interval) (s : List Interval) (i : Interval) → ends_before x i ≡ true → with_interval (x ∷ s) i ≡ x ∷ with_interval s i
joined-front x s i e = cond-true (ends_before x i) _ _ e

pub joined-place : (x : Interval) (s : List Interval) (i : Interval) → ends_before x i ≡ false → ends_before i x ≡ true → with_interval (x ∷ s) i ≡ i ∷ x ∷ s
joined-place x s i e f = cond-false (ends_before x i) _ _ e ∙ cond-true (ends_before i x) _ _ f

pub joined-merge : (x : Interval) (s : List Interval) (i : Interval) → ends_before x i ≡ false → ends_before i x ≡ false → with_interval (x ∷ s) i ≡ with_interval s (hull i x)
joined-merge x s i e f = cond-false (ends_before x i) _ _ e ∙ cond-false (ends_before i x) _ _ f

-- a fact of what is joined, from the three cases
pub by_joined : (P : List Interval → Interval → List Interval → Type 0)
    → ((i : Interval) → P [] i (i ∷ []))
    → ((x : Interval) (s : List Interval) (i : Interval) → ends_before x i ≡ true → P s i (with_interval s i) → P (x ∷ s) i (x ∷ with_interval s i))
    → ((x : Interval) (s : List Interval) (i : Interval) → ends_before x i ≡ false → ends_before i x ≡ true → P (x ∷ s) i (i ∷ x ∷ s))
    → ((x : Interval) (s : List Interval) (i : Interval) → ends_before x i ≡ false → ends_before i x ≡ false → P s (hull i x) (with_interval s (hull i x)) → P (x ∷ s) i (with_interval s (hull i x)))
    → (s : List Interval) (i : Interval) → P s i (with_interval s i)
by_joined P none front place merge [] i = none i
by_joined P none front place merge (x ∷ s) i =
    elim (cases_Bool (ends_before x i)) [
      | inl e ↦ rw (joined-front x s i e) (front x s i e (by_joined P none front place merge s i))
      | inr e ↦ elim (cases_Bool (ends_before i x)) [
        | inl f ↦ rw (joined-place x s i e f) (place x s i e f)
        | inr f ↦ rw (joined-merge x s i e f) (merge x s i e f (by_joined P none front place merge s (hull i x)))
      ]
    ]

pub hull-interval : (a b : Interval) → IsInterval a → IsInterval b → IsInterval (hull a b)
hull-interval a b ia ib = record { uuid = ia.uuid; from_one = omega (arith, ia.from_one, ib.from_one); holds_first = omega (arith, ia.holds_first, ib.holds_first); to_last = omega (arith, ia.to_last, ib.to_last) }

-- ---- pairs

or_swap : (a b c : Bool) → ((a || b) || c) ≡ (b || (a || c))
or_swap true true c = refl
or_swap true false c = refl
or_swap false true c = refl
or_swap false false c = refl

or_over : (a b c : Bool) → (a || (b || c)) ≡ (b || (a || c))
or_over true true c = refl
or_over true false c = refl
or_over false true c = refl
or_over false false c = refl

pub has-joined : (s : List Interval) (i : Interval) (u n : ℕ) → AllByRecursion IsInterval s → IsInterval i → has (with_interval s i) u n ≡ (holds i u n || has s u n)
has-joined s i u n each one =
    by_joined (λ s i j. AllByRecursion IsInterval s → IsInterval i → has j u n ≡ (holds i u n || has s u n))
    (λ i each one. refl)
    (λ x s i e rest each one. ap (λ b. holds x u n || b) (rest each.1 one) ∙ or_over (holds x u n) (holds i u n) (has s u n))
    (λ x s i e f each one. refl)
    (λ x s i e f rest each one.
    rest each.1 (hull-interval i x one each.0)
    ∙ ap (λ b. b || has s u n) (holds-hull i x u n one each.0 f e)
    ∙ or_swap (holds x u n) (holds i u n) (has s u n))
    s i each one

pub joined-intervals : (s : List Interval) (i : Interval) → AllByRecursion IsInterval s → IsInterval i → AllByRecursion IsInterval (with_interval s i)
joined-intervals s i each one =
    by_joined (λ s i j. AllByRecursion IsInterval s → IsInterval i → AllByRecursion IsInterval j)
    (λ i each one. (one, tt))
    (λ x s i e rest each one. (each.0, rest each.1 one))
    (λ x s i e f each one. (one, each))
    (λ x s i e f rest each one. rest each.1 (hull-interval i x one each.0))
    s i each one

-- ---- canonical

abbrev pub AllEnd : Interval → List Interval → Type 0
AllEnd x s = AllByRecursion (λ later. IsTrue (ends_before x later)) s

pub canonical-intervals : (s : List Interval) → IsCanonical s → AllByRecursion IsInterval s
canonical-intervals [] c = tt
canonical-intervals (x ∷ s) c = (c.0, canonical-intervals s c.2)

-- two intervals of which neither ends before the other are of one uuid
pub one_uuid : (a b : Interval) → ends_before a b ≡ false → ends_before b a ≡ false → a.uuid ≡ b.uuid
one_uuid a b p q = grind (arith, nat_tests)

pub ends-hull : (a b c : Interval) → b.uuid ≡ c.uuid → ends_before a b ≡ true → ends_before a c ≡ true → ends_before a (hull b c) ≡ true
ends-hull a b c same p q = grind (arith, nat_tests)

pub all_end-joined : (x : Interval) (s : List Interval) (i : Interval) → AllEnd x s → ends_before x i ≡ true → AllEnd x (with_interval s i)
all_end-joined x s i all e =
    by_joined (λ s i j. AllEnd x s → ends_before x i ≡ true → AllEnd x j)
    (λ i all e. (e, tt))
    (λ y s i f rest all e. (all.0, rest all.1 e))
    (λ y s i f g all e. (e, all))
    (λ y s i f g rest all e. rest all.1 (ends-hull x i y (one_uuid i y g f) e all.0))
    s i all e

pub all_end-trans : (x y : Interval) (s : List Interval) → IsInterval y → ends_before x y ≡ true → AllEnd y s → AllEnd x s
all_end-trans x y [] one e all = tt
all_end-trans x y (z ∷ s) one e all = (ends-trans x y z one e all.0, all_end-trans x y s one e all.1)

pub joined-canonical : (s : List Interval) (i : Interval) → IsCanonical s → IsInterval i → IsCanonical (with_interval s i)
joined-canonical s i c one =
    by_joined (λ s i j. IsCanonical s → IsInterval i → IsCanonical j)
    (λ i c one. (one, tt, tt))
    (λ x s i e rest c one. (c.0, all_end-joined x s i c.1 e, rest c.2 one))
    (λ x s i e f c one. (one, (f, all_end-trans i x s c.0 f c.1), c))
    (λ x s i e f rest c one. rest c.2 (hull-interval i x one c.0))
    s i c one

-- ---- a list of intervals more

pub union-canonical : (s more : List Interval) → IsCanonical s → AllByRecursion IsInterval more → IsCanonical (union_of s more)
union-canonical s [] c each = c
union-canonical s (i ∷ more) c each = union-canonical (with_interval s i) more (joined-canonical s i c each.0) each.1

pub has-union_of : (s more : List Interval) (u n : ℕ) → AllByRecursion IsInterval s → AllByRecursion IsInterval more → has (union_of s more) u n ≡ (has s u n || has more u n)
has-union_of s [] u n all each = sym (or_nothing (has s u n))
  where
    or_nothing : (b : Bool) → (b || false) ≡ b
    or_nothing true = refl
    or_nothing false = refl
has-union_of s (i ∷ more) u n all each =
    has-union_of (with_interval s i) more u n (joined-intervals s i all each.0) each.1
    ∙ ap (λ b. b || has more u n) (has-joined s i u n all each.0)
    ∙ or_swap (holds i u n) (has s u n) (has more u n)
