-- What the tests of intervals say.
use Rattle.std.proofs.Common.{◌≡◌, ℕ, ◌≤◌, true, false, arith, ◌||◌}
use Rattle.std.proofs.lemmas.Bool.Decides.{nat_tests}
use Rattle.gtid_set.specs.declared.interval.Interval.{Interval}
use Rattle.gtid_set.specs.Position.{holds, ends_before, hull, IsInterval}

abbrev pub Holds : Interval → ℕ → ℕ → Type 0
Holds i u n = (i.uuid ≡ u) × (i.first ≤ n) × (n ≤ i.last)

pub ends-trans : (a b c : Interval) → IsInterval b → ends_before a b ≡ true → ends_before b c ≡ true → ends_before a c ≡ true
ends-trans a b c i p q = let h = i.holds_first in grind (arith, nat_tests)

pub holds-true : (i : Interval) (u n : ℕ) → holds i u n ≡ true → Holds i u n
holds-true i u n e = grind (arith, nat_tests)

pub true-holds : (i : Interval) (u n : ℕ) → Holds i u n → holds i u n ≡ true
true-holds i u n e = grind (arith, nat_tests)

-- where neither ends before the other, the hull holds what they hold
pub holds-hull : (a b : Interval) (u n : ℕ) → IsInterval a → IsInterval b → ends_before a b ≡ false → ends_before b a ≡ false → holds (hull a b) u n ≡ (holds b u n || holds a u n)
holds-hull a b u n ia ib p q =
    let h = ia.holds_first in let k = ib.holds_first in grind (arith, nat_tests)
