-- One pair more: it stands in a gap, or widens an interval that may then touch the next one.
use Rattle.std.proofs.Common.{◌≡◌, ℕ, zero, suc, ◌+◌, ◌<◌, ◌≤◌, Bool, true, false, refl, sym, ◌∙◌, ap, subst, arith, add-one, min, List, [], ◌∷◌, length, get_or, set, take}
use Rattle.std.specs.List.{insert, remove}
use Rattle.std.proofs.lemmas.Bool.{cond-true, cond-false, or_from}
use Rattle.std.proofs.lemmas.Bool.Decides.{nat_tests}
use Rattle.gtid_set.specs.declared.interval.Interval.{Interval}
use Rattle.gtid_set.specs.Position.{holds, has, ends_before, hull, with_interval, IsInterval, IsCanonical, StandsApart}
use Rattle.gtid_set.specs.Inner.Order.{AllEndBefore, wider, merged_front, widened}
use Rattle.gtid_set.proofs.Joined.{joined-front, joined-place, joined-merge, one_uuid, all_end-trans}
use Rattle.gtid_set.proofs.Same.{same_interval, not_behind}

-- ---- in a gap

not_both : (a b : Interval) → IsInterval a → IsInterval b → ends_before a b ≡ true → ends_before b a ≡ false
not_both a b ia ib e = let h = ia.holds_first in let k = ib.holds_first in grind (arith, nat_tests)

pub insert-joined : (s : List Interval) (place : ℕ) (new : Interval) → place ≤ length s → IsCanonical s → IsInterval new → AllEndBefore new (take place s) → (place < length s → (d : Interval) → ends_before new (get_or s place d) ≡ true) → insert s place new ≡ with_interval s new
insert-joined [] zero new le c one all next = refl
insert-joined [] (suc place) new le c one all next = absurd (omega arith)
insert-joined (x ∷ s) zero new le c one all next =
    let e : ends_before new x ≡ true = next (omega arith) x in
    sym (joined-place x s new (not_both new x one c.0 e) e)
insert-joined (x ∷ s) (suc place) new le c one all next =
    ap (λ t. x ∷ t) (insert-joined s place new (omega arith) c.2 one all.1 (λ lt d. next (omega arith) d))
    ∙ sym (joined-front x s new all.0)

-- ---- at an interval

abbrev pair_at : ℕ → ℕ → Interval
pair_at uuid number = record { uuid = uuid; first = number; last = number }

hull-wider : (x : Interval) (uuid number : ℕ) → ends_before x (pair_at uuid number) ≡ false → ends_before (pair_at uuid number) x ≡ false → hull (pair_at uuid number) x ≡ wider x number
hull-wider x uuid number e f = same_interval (hull (pair_at uuid number) x) (wider x number) (one_uuid (pair_at uuid number) x f e) (omega arith) (omega arith)

-- what is known of an interval that a number next to it made wider, and of the one behind it
record Touches (x y : Interval) (number : ℕ) : Type 0 where
  behind : ends_before x y ≡ true
  near : number ≤ x.last + 1
  first_one : IsInterval x
  second_one : IsInterval y

not_before_wider : (x y : Interval) (number : ℕ) → Touches x y number → ends_before y (wider x number) ≡ false
not_before_wider x y number t =
    let b = t.behind in let h = t.first_one.holds_first in let k = t.second_one.holds_first in grind (arith, nat_tests)

hull-next : (x y : Interval) (number : ℕ) → Touches x y number → ends_before (wider x number) y ≡ false → hull (wider x number) y ≡ record { uuid = x.uuid; first = min x.first number; last = y.last }
hull-next x y number t e =
    let b = t.behind in let n = t.near in let h = t.first_one.holds_first in let k = t.second_one.holds_first in
    let same : x.uuid ≡ y.uuid = grind (arith, nat_tests) in
    let gap : x.last + 1 < y.first = grind (arith, nat_tests) in
    same_interval (hull (wider x number) y) (record { uuid = x.uuid; first = min x.first number; last = y.last }) refl (omega arith) (omega arith)

ends_behind : (x y z : Interval) (number : ℕ) → Touches x y number → ends_before (wider x number) y ≡ false → ends_before y z ≡ true → ends_before (record { uuid = x.uuid; first = min x.first number; last = y.last }) z ≡ true
ends_behind x y z number t e f = let b = t.behind in grind (arith, nat_tests)

not_ends_behind : (x y z : Interval) (number : ℕ) → Touches x y number → IsInterval z → ends_before y z ≡ true → ends_before z (record { uuid = x.uuid; first = min x.first number; last = y.last }) ≡ false
not_ends_behind x y z number t one f =
    let b = t.behind in let h = t.first_one.holds_first in let k = t.second_one.holds_first in let l = one.holds_first in grind (arith, nat_tests)

joined-merged_front : (x : Interval) (s : List Interval) (number : ℕ) → IsCanonical (x ∷ s) → number ≤ x.last + 1 → with_interval s (wider x number) ≡ merged_front (wider x number) s
joined-merged_front x [] number c near = refl
joined-merged_front x (y ∷ s) number c near =
    let t : Touches x y number = record { behind = c.1.0; near = near; first_one = c.0; second_one = c.2.0 } in
    let w = wider x number in
    let out = not_before_wider x y number t in
    by_test (ends_before w y) refl t out
  where
    last_part : (x y : Interval) (s : List Interval) (number : ℕ) → Touches x y number → IsCanonical (y ∷ s) → ends_before (wider x number) y ≡ false
        → with_interval s (record { uuid = x.uuid; first = min x.first number; last = y.last }) ≡ record { uuid = x.uuid; first = min x.first number; last = y.last } ∷ s
    last_part x y [] number t c e = refl
    last_part x y (z ∷ s) number t c e =
        joined-place z s (record { uuid = x.uuid; first = min x.first number; last = y.last }) (not_ends_behind x y z number t c.2.0 c.1.0) (ends_behind x y z number t e c.1.0)

    by_test : (b : Bool) → ends_before (wider x number) y ≡ b → Touches x y number → ends_before y (wider x number) ≡ false → with_interval (y ∷ s) (wider x number) ≡ merged_front (wider x number) (y ∷ s)
    by_test true e t out = joined-place y s (wider x number) out e ∙ sym (cond-true (ends_before (wider x number) y) _ _ e)
    by_test false e t out =
        joined-merge y s (wider x number) out e
        ∙ ap (λ h. with_interval s h) (hull-next x y number t e)
        ∙ last_part x y s number t c.2 e
        ∙ sym (cond-false (ends_before (wider x number) y) _ _ e)

near_enough : (x : Interval) (uuid number : ℕ) → ends_before x (pair_at uuid number) ≡ false → ends_before (pair_at uuid number) x ≡ false → number ≤ x.last + 1
near_enough x uuid number e f = grind (arith, nat_tests)

pub widened-joined : (s : List Interval) (place uuid number : ℕ) (x : Interval) → place < length s → x ≡ get_or s place x → IsCanonical s → AllEndBefore (pair_at uuid number) (take place s)
    → ends_before x (pair_at uuid number) ≡ false → ends_before (pair_at uuid number) x ≡ false → widened s place number ≡ with_interval s (pair_at uuid number)
widened-joined [] place uuid number x lt at c all e f = absurd (omega arith)
widened-joined (y ∷ s) zero uuid number x lt at c all e f =
    let e' : ends_before y (pair_at uuid number) ≡ false = subst (λ (i : Interval). ends_before i (pair_at uuid number) ≡ false) at e in
    let f' : ends_before (pair_at uuid number) y ≡ false = subst (λ (i : Interval). ends_before (pair_at uuid number) i ≡ false) at f in
    sym (joined-merged_front y s number c (near_enough y uuid number e' f'))
    ∙ sym (joined-merge y s (pair_at uuid number) e' f' ∙ ap (λ h. with_interval s h) (hull-wider y uuid number e' f'))
widened-joined (y ∷ s) (suc place) uuid number x lt at c all e f =
    ap (λ t. y ∷ t) (widened-joined s place uuid number x (omega arith) at c.2 all.1 e f)
    ∙ sym (joined-front y s (pair_at uuid number) all.0)

-- ---- the two cases of widening

keep : (s : List Interval) (place number : ℕ) (x : Interval) → place < length s → x ≡ get_or s place x → (suc place < length s → (d : Interval) → ends_before (wider x number) (get_or s (suc place) d) ≡ true) → set s place (wider x number) ≡ widened s place number
keep [] place number x lt at next = absurd (omega arith)
keep (y ∷ []) zero number x lt at next = ap (λ (i : Interval). wider i number ∷ []) at
keep (y ∷ z ∷ s) zero number x lt at next =
    let e : ends_before (wider y number) z ≡ true = subst (λ (i : Interval). ends_before (wider i number) z ≡ true) at (next (omega arith) z) in
    ap (λ (i : Interval). wider i number ∷ z ∷ s) at ∙ sym (cond-true (ends_before (wider y number) z) _ _ e)
keep (y ∷ s) (suc place) number x lt at next = ap (λ t. y ∷ t) (keep s place number x (omega arith) at (λ lt' d. next (omega arith) d))

pub set-widened : (s : List Interval) (place number : ℕ) (x : Interval) → place < length s → x ≡ get_or s place x → (place + 1 < length s → (d : Interval) → ends_before (wider x number) (get_or s (place + 1) d) ≡ true) → set s place (wider x number) ≡ widened s place number
set-widened s place number x lt at next = keep s place number x lt at (λ lt' d. let e : place + 1 ≡ suc place = omega arith in subst (λ (k : ℕ). ends_before (wider x number) (get_or s k d) ≡ true) e (next (omega arith) d))

merge : (s : List Interval) (place number : ℕ) (x y : Interval) → suc place < length s → x ≡ get_or s place x → y ≡ get_or s (suc place) y → ends_before (wider x number) y ≡ false
    → set (remove s (suc place)) place (record { uuid = x.uuid; first = min x.first number; last = y.last }) ≡ widened s place number
merge [] place number x y lt at next e = absurd (omega arith)
merge (a ∷ []) place number x y lt at next e = absurd (omega arith)
merge (a ∷ b ∷ s) zero number x y lt at next e =
    let f : ends_before (wider a number) b ≡ false = subst (λ (i : Interval). ends_before (wider i number) b ≡ false) at (subst (λ (i : Interval). ends_before (wider x number) i ≡ false) next e) in
    let made : Interval → Interval → List Interval = λ i j. record { uuid = i.uuid; first = min i.first number; last = j.last } ∷ s in
    ap (λ (i : Interval). made i y) at ∙ ap (λ (j : Interval). made a j) next ∙ sym (cond-false (ends_before (wider a number) b) _ _ f)
merge (a ∷ b ∷ s) (suc place) number x y lt at next e = ap (λ t. a ∷ t) (merge (b ∷ s) place number x y (omega arith) at next e)

pub set-merged : (s : List Interval) (place number : ℕ) (x y : Interval) → place + 1 < length s → x ≡ get_or s place x → y ≡ get_or s (place + 1) y → ends_before (wider x number) y ≡ false
    → set (remove s (place + 1)) place (record { uuid = x.uuid; first = min x.first number; last = y.last }) ≡ widened s place number
set-merged s place number x y lt at next e = rw add-one (merge s place number x y (omega arith) at (rw add-one at next) e)

-- ---- a pair that stands apart

not_held : (x : Interval) (uuid number n : ℕ) → ends_before x (pair_at uuid number) ≡ true → number ≤ n + 1 → holds x uuid n ≡ false
not_held x uuid number n e low = grind (arith, nat_tests)

pub stands_apart : (s : List Interval) (place uuid number : ℕ) → place ≤ length s → IsCanonical s → AllEndBefore (pair_at uuid number) (take place s)
    → (place < length s → (d : Interval) → ends_before (pair_at uuid number) (get_or s place d) ≡ true) → StandsApart s uuid number
stands_apart [] zero uuid number le c all next n low high = refl
stands_apart [] (suc place) uuid number le c all next n low high = refl
stands_apart (x ∷ s) zero uuid number le c all next n low high =
    let e : ends_before (pair_at uuid number) x ≡ true = next (omega arith) x in
    not_behind (pair_at uuid number) (x ∷ s) n (e, all_end-trans (pair_at uuid number) x s c.0 e c.1) high
stands_apart (x ∷ s) (suc place) uuid number le c all next n low high =
    or_from (holds x uuid n) (has s uuid n) (not_held x uuid number n all.0 low)
    (stands_apart s place uuid number (omega arith) c.2 all.1 (λ lt d. next (omega arith) d) n low high)
