-- The one interval of a set that can cover another is the first that doesn't end before it.
use Rattle.std.proofs.Common.{◌≡◌, ℕ, zero, suc, ◌+◌, ◌<◌, ◌≤◌, Bool, true, false, refl, sym, ◌∙◌, ap, subst, arith, ◌||◌, List, [], ◌∷◌, ◌++◌, length, get_or, take, drop}
use Rattle.std.specs.List.{AllByRecursion, AllWithin, list_any}
use Rattle.std.specs.List.Sorted.{IsPartitionedBy}
use Rattle.std.proofs.lemmas.Bool.{or_from}
use Rattle.std.proofs.lemmas.Bool.Decides.{nat_tests}
use Rattle.std.proofs.lemmas.List.{take-append-drop, take_all}
use Rattle.gtid_set.specs.declared.interval.Interval.{Interval}
use Rattle.gtid_set.specs.Position.{ends_before, holds_interval, IsInterval, IsCanonical}
use Rattle.gtid_set.specs.Inner.Order.{AllEndBefore}
use Rattle.gtid_set.proofs.IntervalFacts.{ends-trans}
use Rattle.gtid_set.proofs.Joined.{AllEnd, canonical-intervals}
use Rattle.gtid_set.proofs.Merging.{drop-front, canonical-drop, interval-at}

abbrev pub covered_by : Interval → List Interval → Bool
covered_by x set = list_any (λ j. holds_interval j x) set

not_covering : (j x : Interval) → x.first ≤ x.last → ends_before j x ≡ true → holds_interval j x ≡ false
not_covering j x some e = grind (arith, nat_tests)

none-before : (front back : List Interval) (x : Interval) → x.first ≤ x.last → AllEndBefore x front → covered_by x (front ++ back) ≡ covered_by x back
none-before [] back x some all = refl
none-before (j ∷ front) back x some all = ap (λ b. b || covered_by x (front ++ back)) (not_covering j x some all.0) ∙ none-before front back x some all.1

not_later : (j k x : Interval) → ends_before j k ≡ true → ends_before j x ≡ false → holds_interval k x ≡ false
not_later j k x e f = grind (arith, nat_tests)

none-behind : (j : Interval) (later : List Interval) (x : Interval) → AllEnd j later → ends_before j x ≡ false → covered_by x later ≡ false
none-behind j [] x all e = refl
none-behind j (k ∷ later) x all e = or_from (holds_interval k x) (covered_by x later) (not_later j k x all.0 e) (none-behind j later x all.1 e)

or_nothing : (a b : Bool) → b ≡ false → (a || b) ≡ a
or_nothing true b e = refl
or_nothing false b e = e

pub covered-at : (set : List Interval) (k : ℕ) (j x : Interval) → k < length set → j ≡ get_or set k j → IsCanonical set → x.first ≤ x.last → AllEndBefore x (take k set) → ends_before j x ≡ false
    → covered_by x set ≡ holds_interval j x
covered-at set k j x lt e c some all not_ends =
    let d = drop-front set k j lt e in
    let rest : IsCanonical (j ∷ drop (k + 1) set) = rw d at (canonical-drop k set c) in
    ap (λ s. covered_by x s) (sym (take-append-drop k set))
    ∙ none-before (take k set) (drop k set) x some all
    ∙ ap (λ s. covered_by x s) d
    ∙ or_nothing (holds_interval j x) (covered_by x (drop (k + 1) set)) (none-behind j (drop (k + 1) set) x rest.1 not_ends)

pub covered-nowhere : (set : List Interval) (k : ℕ) (x : Interval) → length set ≤ k → x.first ≤ x.last → AllEndBefore x (take k set) → covered_by x set ≡ false
covered-nowhere set k x le some all =
    let whole : AllEndBefore x set = subst (λ (s : List Interval). AllEndBefore x s) (take_all k set le) all in
    nowhere set x some whole
  where
    nowhere : (set : List Interval) (x : Interval) → x.first ≤ x.last → AllEndBefore x set → covered_by x set ≡ false
    nowhere [] x some all = refl
    nowhere (j ∷ set) x some all = or_from (holds_interval j x) (covered_by x set) (not_covering j x some all.0) (nowhere set x some all.1)

-- ---- the intervals that were passed end before all later ones

pub AllPassed-trans : (front : List Interval) (x y : Interval) → IsInterval x → ends_before x y ≡ true → AllEndBefore x front → AllEndBefore y front
AllPassed-trans [] x y one e all = tt
AllPassed-trans (j ∷ front) x y one e all = (ends-trans j x y one all.0 e, AllPassed-trans front x y one e all.1)

abbrev pub AllPassed : List Interval → List Interval → Type 0
AllPassed front list = AllByRecursion (λ y. AllEndBefore y front) list

pub passed-rest : (front : List Interval) (x : Interval) (list : List Interval) → IsInterval x → AllEnd x list → AllEndBefore x front → AllPassed front list
passed-rest front x [] one ends all = tt
passed-rest front x (y ∷ list) one ends all = (AllPassed-trans front x y one ends.0 all, passed-rest front x list one ends.1 all)

-- ---- the place that a partition point gives

pub AllEndBefore-within : (set : List Interval) (k : ℕ) (x : Interval) → k ≤ length set → AllWithin (λ j. ends_before j x ≡ true) set 0 k → AllEndBefore x (take k set)
AllEndBefore-within set zero x le all = tt
AllEndBefore-within [] (suc k) x le all = tt
AllEndBefore-within (y ∷ set) (suc k) x le all = (all 0 y (omega arith) (omega arith), AllEndBefore-within set k x (omega arith) (λ i d low high. all (suc i) d (omega arith) (omega arith)))

-- an interval of a set ends before every later one
ends-later : (x : Interval) (set : List Interval) (k : ℕ) (d : Interval) → AllEnd x set → k < length set → ends_before x (get_or set k d) ≡ true
ends-later x [] k d all lt = absurd (omega arith)
ends-later x (y ∷ set) zero d all lt = all.0
ends-later x (y ∷ set) (suc k) d all lt = ends-later x set k d all.1 (omega arith)

pub partitioned : (set : List Interval) (x : Interval) → IsCanonical set → IsPartitionedBy (λ j. ends_before j x) set
partitioned [] x c i j d le lt e = absurd (omega arith)
partitioned (y ∷ set) x c zero zero d le lt e = e
partitioned (y ∷ set) x c zero (suc j) d le lt e =
    ends-trans y (get_or set j d) x (interval-at set j d (omega arith) (canonical-intervals set c.2)) (ends-later y set j d c.1 (omega arith)) e
partitioned (y ∷ set) x c (suc i) zero d le lt e = absurd (omega arith)
partitioned (y ∷ set) x c (suc i) (suc j) d le lt e = partitioned set x c.2 i j d (omega arith) (omega arith) e
