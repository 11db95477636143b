-- Intervals that rise by their beginnings, added one after another.
use Rattle.std.proofs.Common.{◌≡◌, ℕ, zero, suc, ◌+◌, ◌-◌, ◌<◌, ◌≤◌, Bool, true, false, refl, sym, ◌∙◌, ap, subst, arith, IsTrue, ◌||◌, add-one, drop-cons, List, [], ◌∷◌, length, get_or, drop}
use Rattle.std.specs.List.{AllByRecursion}
use Rattle.std.proofs.lemmas.Bool.Decides.{nat_tests}
use Rattle.std.proofs.lemmas.List.{drop-drop, get_or-drop}
use Rattle.gtid_set.specs.declared.interval.Interval.{Interval}
use Rattle.gtid_set.specs.Position.{holds, has, ends_before, starts_by, hull, with_interval, union_of, IsInterval, IsCanonical}
use Rattle.gtid_set.specs.Inner.Order.{AllStartBy, AllStartOver, IsRisingByStart}
use Rattle.gtid_set.proofs.Joined.{AllEnd, by_joined, one_uuid, has-joined, joined-canonical, canonical-intervals}
use Rattle.gtid_set.proofs.Same.{equal_sets}
use Rattle.gtid_set.proofs.Within.{union-pairs, canonical-union}

starts-hull : (a b y : Interval) → a.uuid ≡ b.uuid → starts_by a y ≡ true → starts_by b y ≡ true → starts_by (hull a b) y ≡ true
starts-hull a b y same p q = grind (arith, nat_tests)

pub start-joined : (y : Interval) (s : List Interval) (i : Interval) → AllStartBy y s → starts_by i y ≡ true → AllStartBy y (with_interval s i)
start-joined y s i all e =
    by_joined (λ s i j. AllStartBy y s → starts_by i y ≡ true → AllStartBy y j)
    (λ i all e. (e, tt))
    (λ x s i f rest all e. (all.0, rest all.1 e))
    (λ x s i f g all e. (e, all))
    (λ x s i f g rest all e. rest all.1 (starts-hull i x y (one_uuid i x g f) e all.0))
    s i all e

-- one interval begins no later than each of a list
abbrev pub StartsAll : Interval → List Interval → Type 0
StartsAll x list = AllByRecursion (λ y. IsTrue (starts_by x y)) list

pub over-joined : (s : List Interval) (x : Interval) (list : List Interval) → AllStartOver s list → StartsAll x list → AllStartOver (with_interval s x) list
over-joined s x [] over starts = tt
over-joined s x (y ∷ list) over starts = (start-joined y s x over.0 starts.0, over-joined s x list over.1 starts.1)

starts-ends : (x y : Interval) → IsInterval x → ends_before x y ≡ true → starts_by x y ≡ true
starts-ends x y one e = let h = one.holds_first in grind (arith, nat_tests)

StartsAll-ends : (x : Interval) (s : List Interval) → IsInterval x → AllEnd x s → StartsAll x s
StartsAll-ends x [] one all = tt
StartsAll-ends x (y ∷ s) one all = (starts-ends x y one all.0, StartsAll-ends x s one all.1)

pub canonical-rising : (s : List Interval) → IsCanonical s → IsRisingByStart s
canonical-rising [] c = tt
canonical-rising (x ∷ s) c = (StartsAll-ends x s c.0 c.1, canonical-rising s c.2)

pub starts_trans : (x y z : Interval) → starts_by x y ≡ true → starts_by y z ≡ true → starts_by x z ≡ true
starts_trans x y z p q = grind (arith, nat_tests)

pub StartsAll-trans : (x y : Interval) (list : List Interval) → starts_by x y ≡ true → StartsAll y list → StartsAll x list
StartsAll-trans x y [] e all = tt
StartsAll-trans x y (z ∷ list) e all = (starts_trans x y z e all.0, StartsAll-trans x y list e all.1)

pub starts_total : (x y : Interval) → starts_by x y ≡ false → starts_by y x ≡ true
starts_total x y e = grind (arith, nat_tests)

pub over-nothing : (list : List Interval) → AllStartOver [] list
over-nothing [] = tt
over-nothing (x ∷ list) = (tt, over-nothing list)

-- ---- what is left of a list

pub drop-front : (s : List Interval) (k : ℕ) (x : Interval) → k < length s → x ≡ get_or s k x → drop k s ≡ x ∷ drop (k + 1) s
drop-front s k x lt e = rw add-one (drop-cons s k x lt ∙ ap (λ y. y ∷ drop (suc k) s) (sym e))

pub intervals-drop : (k : ℕ) (s : List Interval) → AllByRecursion IsInterval s → AllByRecursion IsInterval (drop k s)
intervals-drop zero s each = each
intervals-drop (suc k) [] each = tt
intervals-drop (suc k) (x ∷ s) each = intervals-drop k s each.1

pub rising-drop : (k : ℕ) (s : List Interval) → IsRisingByStart s → IsRisingByStart (drop k s)
rising-drop zero s up = up
rising-drop (suc k) [] up = tt
rising-drop (suc k) (x ∷ s) up = rising-drop k s up.1

pub canonical-drop : (k : ℕ) (s : List Interval) → IsCanonical s → IsCanonical (drop k s)
canonical-drop zero s c = c
canonical-drop (suc k) [] c = tt
canonical-drop (suc k) (x ∷ s) c = canonical-drop k s c.2

-- ---- one interval more

pub record Next (new list : List Interval) : Type 0 where
  pub canonical : IsCanonical new
  pub starts : AllStartOver new list

next-front : (set : List Interval) (x : Interval) (list : List Interval) → IsCanonical set → IsInterval x → IsRisingByStart (x ∷ list) → AllStartOver set (x ∷ list) → Next (with_interval set x) list
next-front set x list c one up over = record { canonical = joined-canonical set x c one; starts = over-joined set x list over.1 up.0 }

pub next_of : (set rising new : List Interval) (k : ℕ) (x : Interval) → k < length rising → x ≡ get_or rising k x → IsCanonical set → AllByRecursion IsInterval rising → IsRisingByStart rising → AllStartOver set (drop k rising) → new ≡ with_interval set x
    → Next new (drop (k + 1) rising) × (union_of new (drop (k + 1) rising) ≡ union_of set (drop k rising))
next_of set rising new k x lt e c each up over is =
    let d = drop-front rising k x lt e in
    let one : AllByRecursion IsInterval (x ∷ drop (k + 1) rising) = rw d at (intervals-drop k rising each) in
    let rise : IsRisingByStart (x ∷ drop (k + 1) rising) = rw d at (rising-drop k rising up) in
    let start : AllStartOver set (x ∷ drop (k + 1) rising) = rw d at over in
    let next : Next (with_interval set x) (drop (k + 1) rising) = next-front set x (drop (k + 1) rising) c one.0 rise start in
    (rw is next, rw (d, is) refl)

pub interval-at : (s : List Interval) (k : ℕ) (d : Interval) → k < length s → AllByRecursion IsInterval s → IsInterval (get_or s k d)
interval-at [] k d lt each = absurd (omega arith)
interval-at (x ∷ s) zero d lt each = each.0
interval-at (x ∷ s) (suc k) d lt each = interval-at s k d (omega arith) each.1

-- ---- in place: what is left stands behind the set so far

pub left-later : (new old : List Interval) (m n : ℕ) → m ≤ n → drop m new ≡ drop m old → drop n new ≡ drop n old
left-later new old m n le e =
    let j : m + (n - m) ≡ n = omega arith in
    rw j at (sym (drop-drop (n - m) m new) ∙ ap (λ (l : List Interval). drop (n - m) l) e ∙ drop-drop (n - m) m old)

same-at : (s t : List Interval) (k : ℕ) (d : Interval) → drop k s ≡ drop k t → get_or s k d ≡ get_or t k d
same-at s t k d e =
    let j : k + 0 ≡ k = omega arith in
    rw j at (sym (get_or-drop k s 0 d) ∙ ap (λ (l : List Interval). get_or l 0 d) e ∙ get_or-drop k t 0 d)

-- the interval at a place of what is left
pub record Left (set rising : List Interval) (k : ℕ) (x : Interval) : Type 0 where
  pub is : x ≡ get_or rising k x
  pub interval : IsInterval x
  pub starts : AllStartBy x set

pub left-at : (set items rising : List Interval) (k : ℕ) (x : Interval) → k < length rising → x ≡ get_or items k x → drop k items ≡ drop k rising → AllByRecursion IsInterval rising → AllStartOver set (drop k rising) → Left set rising k x
left-at set items rising k x lt e same each over =
    let is : x ≡ get_or rising k x = e ∙ same-at items rising k x same in
    let start : AllStartOver set (x ∷ drop (k + 1) rising) = rw (drop-front rising k x lt is) at over in
    record {
      is = is;
      interval = subst IsInterval (sym is) (interval-at rising k x lt each);
      starts = start.0;
    }

-- ---- two sets

pub record Merged (both one other new one' other' : List Interval) : Type 0 where
  pub canonical : IsCanonical new
  pub starts_one : AllStartOver new one'
  pub starts_other : AllStartOver new other'
  pub pairs : (u n : ℕ) → (has new u n || (has one' u n || has other' u n)) ≡ (has both u n || (has one u n || has other u n))

regroup : (a b c d : Bool) → ((a || b) || (c || d)) ≡ (b || ((a || c) || d))
regroup true true c d = refl
regroup true false c d = refl
regroup false b c d = refl

merged-front : (both : List Interval) (x : Interval) (one other : List Interval) → IsCanonical both → IsCanonical (x ∷ one) → AllStartOver both (x ∷ one) → AllStartOver both other → StartsAll x other → Merged both (x ∷ one) other (with_interval both x) one other
merged-front both x one other c d over_one over_other first = record {
  canonical = joined-canonical both x c d.0;
  starts_one = over-joined both x one over_one.1 (canonical-rising (x ∷ one) d).0;
  starts_other = over-joined both x other over_other first;
  pairs = λ u n.
      ap (λ b. b || (has one u n || has other u n)) (has-joined both x u n (canonical-intervals both c) d.0)
      ∙ regroup (holds x u n) (has both u n) (has one u n) (has other u n);
}

pub merged-one : (both one other new : List Interval) (i j : ℕ) (x y : Interval) → i < length one → j < length other → x ≡ get_or one i x → y ≡ get_or other j y
    → IsCanonical both → IsCanonical one → IsCanonical other → AllStartOver both (drop i one) → AllStartOver both (drop j other) → starts_by x y ≡ true → new ≡ with_interval both x
    → Merged both (drop i one) (drop j other) new (drop (i + 1) one) (drop j other)
merged-one both one other new i j x y lt lt' e e' c d f over_one over_other first is =
    let p = drop-front one i x lt e in
    let q = drop-front other j y lt' e' in
    let rest : IsCanonical (x ∷ drop (i + 1) one) = rw p at (canonical-drop i one d) in
    let start : AllStartOver both (x ∷ drop (i + 1) one) = rw p at over_one in
    let behind : IsRisingByStart (y ∷ drop (j + 1) other) = rw q at (canonical-rising (drop j other) (canonical-drop j other f)) in
    let all : StartsAll x (drop j other) = rw q (first, StartsAll-trans x y (drop (j + 1) other) first behind.0) in
    let made : Merged both (x ∷ drop (i + 1) one) (drop j other) (with_interval both x) (drop (i + 1) one) (drop j other) = merged-front both x (drop (i + 1) one) (drop j other) c rest start over_other all in
    rw (is, p) made

or_comm_behind : (a b c : Bool) → (a || (b || c)) ≡ (a || (c || b))
or_comm_behind true b c = refl
or_comm_behind false true true = refl
or_comm_behind false true false = refl
or_comm_behind false false true = refl
or_comm_behind false false false = refl

pub merged-swap : {both one other new one' other' : List Interval} → Merged both one other new one' other' → Merged both other one new other' one'
merged-swap {both} {one} {other} {new} {one'} {other'} m = record {
  canonical = m.canonical;
  starts_one = m.starts_other;
  starts_other = m.starts_one;
  pairs = λ u n. or_comm_behind (has new u n) (has other' u n) (has one' u n) ∙ m.pairs u n ∙ or_comm_behind (has both u n) (has one u n) (has other u n);
}

-- what is left of the one behind what is left of the other, of which one has nothing left
pub union-rest : (both one other set : List Interval) → IsCanonical both → IsCanonical one → IsCanonical other → IsCanonical set
    → ((u n : ℕ) → (has both u n || (has one u n || has other u n)) ≡ has set u n) → union_of (union_of both one) other ≡ set
union-rest both one other set c d e f pairs =
    let first = canonical-union both one c d in
    equal_sets (union_of (union_of both one) other) set (canonical-union (union_of both one) other first e) f (λ u n.
    union-pairs (union_of both one) other first e u n
    ∙ ap (λ b. b || has other u n) (union-pairs both one c d u n)
    ∙ or_assoc (has both u n) (has one u n) (has other u n)
    ∙ pairs u n)
  where
    or_assoc : (a b c : Bool) → ((a || b) || c) ≡ (a || (b || c))
    or_assoc true b c = refl
    or_assoc false b c = refl
