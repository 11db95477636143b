-- An interval that begins behind a set's intervals is merged with the last one or stands behind it.
use Rattle.std.proofs.Common.{◌≡◌, ℕ, ◌+◌, ◌-◌, ◌<◌, ◌≤◌, true, false, refl, sym, ◌∙◌, ap, subst, arith, max, List, [], ◌∷◌, ◌++◌, length, get_or, set, take}
use Rattle.std.proofs.Math.Seq.{take-set-lt}
use Rattle.std.proofs.lemmas.Bool.Decides.{nat_tests}
use Rattle.std.proofs.lemmas.Grind.{common_steps, take_at_read}
use Rattle.std.proofs.lemmas.List.{get_or-take, take_more_set, set_at, length-take-le}
use Rattle.gtid_set.specs.declared.interval.Interval.{Interval}
use Rattle.gtid_set.specs.Position.{ends_before, starts_by, hull, with_interval, IsInterval, IsCanonical}
use Rattle.gtid_set.specs.Inner.Order.{AllStartBy, AllEndBefore}
use Rattle.gtid_set.proofs.Joined.{AllEnd, joined-front, joined-merge}
use Rattle.gtid_set.proofs.Same.{same_interval}

-- the last element of a list stands behind the others
pub last_of : (s : List Interval) (x : Interval) → 0 < length s → x ≡ get_or s (length s - 1) x → s ≡ take (length s - 1) s ++ x ∷ []
last_of s x some e =
    let all : take (length s - 1 + 1) s ≡ s = grind (arith, common_steps) in
    sym all ∙ (take_at_read s (length s - 1) x (omega arith)).1 ∙ ap (λ y. take (length s - 1) s ++ y ∷ []) (sym e)

AllEnd-last : (y : Interval) (front : List Interval) (x : Interval) → AllEnd y (front ++ x ∷ []) → ends_before y x ≡ true
AllEnd-last y [] x all = all.0
AllEnd-last y (z ∷ front) x all = AllEnd-last y front x all.1

-- what ends before an interval ends before one that begins no earlier
ends-starts : (y x next : Interval) → ends_before y x ≡ true → starts_by x next ≡ true → ends_before y next ≡ true
ends-starts y x next e h = grind (arith, nat_tests)

not_before : (x next : Interval) → IsInterval next → starts_by x next ≡ true → ends_before next x ≡ false
not_before x next one h = let k = one.holds_first in grind (arith, nat_tests)

-- an interval with a later last number
abbrev pub up_to : Interval → ℕ → Interval
up_to x n = record { uuid = x.uuid; first = x.first; last = max x.last n }

hull-up_to : (x next : Interval) → starts_by x next ≡ true → ends_before x next ≡ false → hull next x ≡ up_to x next.last
hull-up_to x next h e =
    let u : next.uuid ≡ x.uuid = grind (arith, nat_tests) in
    let f : x.first ≤ next.first = grind (arith, nat_tests) in
    same_interval (hull next x) (up_to x next.last) u (omega arith) (omega arith)

pub joined-merged : (front : List Interval) (x next : Interval) → IsCanonical (front ++ x ∷ []) → IsInterval next → starts_by x next ≡ true → ends_before x next ≡ false
    → with_interval (front ++ x ∷ []) next ≡ front ++ up_to x next.last ∷ []
joined-merged [] x next c one h e = joined-merge x [] next e (not_before x next one h) ∙ ap (λ i. i ∷ []) (hull-up_to x next h e)
joined-merged (y ∷ front) x next c one h e =
    joined-front y (front ++ x ∷ []) next (ends-starts y x next (AllEnd-last y front x c.1) h)
    ∙ ap (λ s. y ∷ s) (joined-merged front x next c.2 one h e)

-- ---- behind all intervals

-- what ends before an interval that ends before another ends before that
ends-over : (y x next : Interval) → IsInterval x → ends_before y x ≡ true → ends_before x next ≡ true → ends_before y next ≡ true
ends-over y x next one e h = let k = one.holds_first in grind (arith, nat_tests)

pub AllEndBefore-last : (front : List Interval) (x next : Interval) → IsCanonical (front ++ x ∷ []) → ends_before x next ≡ true → AllEndBefore next (front ++ x ∷ [])
AllEndBefore-last [] x next c e = (e, tt)
AllEndBefore-last (y ∷ front) x next c e =
    let rest = AllEndBefore-last front x next c.2 e in
    (ends-over y x next (last-interval front x c.2) (AllEnd-last y front x c.1) e, rest)
  where
    last-interval : (front : List Interval) (x : Interval) → IsCanonical (front ++ x ∷ []) → IsInterval x
    last-interval [] x c = c.0
    last-interval (y ∷ front) x c = last-interval front x c.2

joined-behind : (s : List Interval) (next : Interval) → AllEndBefore next s → with_interval s next ≡ s ++ next ∷ []
joined-behind [] next all = refl
joined-behind (x ∷ s) next all = joined-front x s next all.0 ∙ ap (λ t. x ∷ t) (joined-behind s next all.1)

-- ---- the two cases at a list's last element

AllStart-last : (next : Interval) (front : List Interval) (x : Interval) → AllStartBy next (front ++ x ∷ []) → starts_by x next ≡ true
AllStart-last next [] x all = all.0
AllStart-last next (y ∷ front) x all = AllStart-last next front x all.1

pub set_last-joined : (s : List Interval) (x next : Interval) → 0 < length s → x ≡ get_or s (length s - 1) x → IsCanonical s → IsInterval next → AllStartBy next s → ends_before x next ≡ false
    → set s (length s - 1) (up_to x next.last) ≡ with_interval s next
set_last-joined s x next some e c one starts not_ends =
    let front = take (length s - 1) s in
    let is : s ≡ front ++ x ∷ [] = last_of s x some e in
    let len : length front ≡ length s - 1 = length-take-le (length s - 1) s (omega arith) in
    let P : List Interval → Type 0 = λ t. set t (length s - 1) (up_to x next.last) ≡ with_interval t next in
    let C : List Interval → Type 0 = λ t. IsCanonical t in
    let A : List Interval → Type 0 = λ t. AllStartBy next t in
    subst P (sym is) (set_at front x [] (up_to x next.last) (length s - 1) len
    ∙ sym (joined-merged front x next (subst C is c) one (AllStart-last next front x (subst A is starts)) not_ends))

pub push-joined : (s : List Interval) (x next : Interval) → 0 < length s → x ≡ get_or s (length s - 1) x → IsCanonical s → ends_before x next ≡ true → s ++ next ∷ [] ≡ with_interval s next
push-joined s x next some e c ends =
    let front = take (length s - 1) s in
    let is : s ≡ front ++ x ∷ [] = last_of s x some e in
    let P : List Interval → Type 0 = λ t. t ++ next ∷ [] ≡ with_interval t next in
    let C : List Interval → Type 0 = λ t. IsCanonical t in
    subst P (sym is) (sym (joined-behind (front ++ x ∷ []) next (AllEndBefore-last front x next (subst C is c) ends)))

pub push-joined-none : (s : List Interval) (next : Interval) → length s ≤ 0 → s ++ next ∷ [] ≡ with_interval s next
push-joined-none [] next le = refl
push-joined-none (x ∷ s) next le = absurd (omega arith)

-- ---- the set at the front of a longer list

last-taken : (s : List Interval) (k : ℕ) (x : Interval) → 0 < k → k ≤ length s → x ≡ get_or s (k - 1) x → x ≡ get_or (take k s) (length (take k s) - 1) x
last-taken s k x some le e = rw (length-take-le k s le) (e ∙ sym (get_or-take k s (k - 1) x (omega arith)))

pub take-set_last-joined : (s : List Interval) (k : ℕ) (x next : Interval) → 0 < k → k ≤ length s → x ≡ get_or s (k - 1) x → IsCanonical (take k s) → IsInterval next → AllStartBy next (take k s) → ends_before x next ≡ false
    → take k (set s (k - 1) (up_to x next.last)) ≡ with_interval (take k s) next
take-set_last-joined s k x next some le e c one starts not_ends =
    let len = length-take-le k s le in
    take-set-lt k s (k - 1) (up_to x next.last) (omega arith)
    ∙ ap (λ (j : ℕ). set (take k s) (j - 1) (up_to x next.last)) (sym len)
    ∙ set_last-joined (take k s) x next (omega (arith, len)) (last-taken s k x some le e) c one starts not_ends

pub take-set-joined : (s : List Interval) (k : ℕ) (x next : Interval) → 0 < k → k < length s → x ≡ get_or s (k - 1) x → IsCanonical (take k s) → ends_before x next ≡ true → take (k + 1) (set s k next) ≡ with_interval (take k s) next
take-set-joined s k x next some lt e c ends =
    let le : k ≤ length s = omega arith in
    let len = length-take-le k s le in
    take_more_set s k next lt ∙ push-joined (take k s) x next (omega (arith, len)) (last-taken s k x some le e) c ends

pub take-set-joined-none : (s : List Interval) (k : ℕ) (next : Interval) → k ≤ 0 → k < length s → take (k + 1) (set s k next) ≡ with_interval (take k s) next
take-set-joined-none s k next none lt =
    take_more_set s k next lt ∙ push-joined-none (take k s) next (omega (arith, length-take-le k s (omega arith)))
