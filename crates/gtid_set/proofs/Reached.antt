-- The place that steps which double, and then halves, reach.
use Rattle.std.proofs.Common.{◌≡◌, ℕ, zero, suc, ◌+◌, ◌<◌, ◌≤◌, true, false, ◌∙◌, subst, arith, List, [], ◌∷◌, length, get_or, take, drop}
use Rattle.std.specs.List.{HoldsAt}
use Rattle.std.proofs.lemmas.List.{get_or_default, get_or-take, get_or-drop}
use Rattle.gtid_set.specs.declared.interval.Interval.{Interval}
use Rattle.gtid_set.specs.Position.{ends_before, IsCanonical}
use Rattle.gtid_set.specs.Inner.Order.{AllEndBefore}
use Rattle.gtid_set.proofs.Joined.{AllEnd}
use Rattle.gtid_set.proofs.Merging.{canonical-drop}
use Rattle.gtid_set.proofs.Covered.{partitioned, AllEndBefore-within}

all_end-take : (k : ℕ) (x : Interval) (s : List Interval) → AllEnd x s → AllEnd x (take k s)
all_end-take zero x s all = tt
all_end-take (suc k) x [] all = tt
all_end-take (suc k) x (y ∷ s) all = (all.0, all_end-take k x s all.1)

canonical-take : (k : ℕ) (s : List Interval) → IsCanonical s → IsCanonical (take k s)
canonical-take zero s c = tt
canonical-take (suc k) [] c = tt
canonical-take (suc k) (x ∷ s) c = (c.0, all_end-take k x s c.1, canonical-take k s c.2)

pub canonical-range : (s : List Interval) (from count : ℕ) → IsCanonical s → IsCanonical (take count (drop from s))
canonical-range s from count c = canonical-take count (drop from s) (canonical-drop from s c)

-- what ends before an interval has none in front of it that doesn't
pub AllEndBefore-through : (s : List Interval) (x : Interval) (last k : ℕ) (d : Interval) → IsCanonical s → k ≤ last + 1 → last < length s → ends_before (get_or s last d) x ≡ true → AllEndBefore x (take k s)
AllEndBefore-through s x last k d c le lt e =
    AllEndBefore-within s k x (omega arith) (λ i d' low high.
    partitioned s x c i last d' (omega arith) lt (subst (λ (j : Interval). ends_before j x ≡ true) (get_or_default s last d d' lt) e))

AllEndBefore-short : (s : List Interval) (count r : ℕ) (x : Interval) → r ≤ count → AllEndBefore x (take r (take count s)) → AllEndBefore x (take r s)
AllEndBefore-short s count zero x le all = tt
AllEndBefore-short [] count (suc r) x le all = tt
AllEndBefore-short (y ∷ s) zero (suc r) x le all = absurd (omega arith)
AllEndBefore-short (y ∷ s) (suc count) (suc r) x le all = (all.0, AllEndBefore-short s count r x (omega arith) all.1)

pub AllEndBefore-range : (s : List Interval) (from count r : ℕ) (x : Interval) → r ≤ count → from ≤ length s → AllEndBefore x (take from s) → AllEndBefore x (take r (take count (drop from s))) → AllEndBefore x (take (from + r) s)
AllEndBefore-range s zero count r x le inside front all =
    let e : 0 + r ≡ r = omega arith in rw e (AllEndBefore-short s count r x le all)
AllEndBefore-range [] (suc from) count r x le inside front all = absurd (omega arith)
AllEndBefore-range (y ∷ s) (suc from) count r x le inside front all =
    let e : suc from + r ≡ suc (from + r) = omega arith in
    rw e (front.0, AllEndBefore-range s from count r x le (omega arith) front.1 all)

AllEndBefore-at : (s : List Interval) (k i : ℕ) (x d : Interval) → i < k → i < length s → AllEndBefore x (take k s) → ends_before (get_or s i d) x ≡ true
AllEndBefore-at s zero i x d lt inside all = absurd (omega arith)
AllEndBefore-at [] (suc k) i x d lt inside all = absurd (omega arith)
AllEndBefore-at (y ∷ s) (suc k) zero x d lt inside all = all.0
AllEndBefore-at (y ∷ s) (suc k) (suc i) x d lt inside all = AllEndBefore-at s k i x d (omega arith) (omega arith) all.1

-- the place stands inside the range, or behind it at the end of the set; it is no place behind an interval that doesn't end before
pub HoldsAt-range : (s : List Interval) (from count r : ℕ) (x : Interval) → r < count → HoldsAt (λ i. ends_before i x ≡ false) (take count (drop from s)) r → HoldsAt (λ i. ends_before i x ≡ false) s (from + r)
HoldsAt-range s from count r x lt holds d =
    let e : get_or (take count (drop from s)) r d ≡ get_or s (from + r) d = get_or-take count (drop from s) r d lt ∙ get_or-drop from s r d in
    subst (λ (i : Interval). ends_before i x ≡ false) e (holds d)

pub not_through : (s : List Interval) (k i : ℕ) (x d : Interval) → i < k → i < length s → AllEndBefore x (take k s) → ends_before (get_or s i d) x ≡ false → ⊥
not_through s k i x d lt inside all e = let t = AllEndBefore-at s k i x d lt inside all in cc
