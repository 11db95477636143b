-- Truths and orders: what both and a comparison say.
use Rattle.std.proofs.Common.{◌≡◌, Bool, true, false, Ordering, refl}
use Rattle.std.specs.Prelude.{IsTrue, ◌&&◌}
use Rattle.std.specs.Ordering.{is_lt}
use Rattle.std.specs.declared.cmp.Ordering.TheVariants.{Less, Equal, Greater}

-- ---- both

pub and-false : (b : Bool) → (b && false) ≡ false
and-false true = refl
and-false false = refl

-- where both aren't true, one of them is false
pub not_both : {P : Type 0} (b c : Bool) → (b && c) ≡ false → (b ≡ false → P) → (c ≡ false → P) → P
not_both true c h k l = l h
not_both false c h k l = k refl

-- ---- a comparison

pub is_less : (o : Ordering) → IsTrue (is_lt o) → o ≡ Less
is_less Less h = refl
is_less Equal h = cc
is_less Greater h = cc

pub less_is : (o : Ordering) → o ≡ Less → IsTrue (is_lt o)
less_is o e = rw e (search)
