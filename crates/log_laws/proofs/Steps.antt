-- Steps that gave something.
use Rattle.std.proofs.Common.{◌≡◌, Bool, true, false, List, [], ◌∷◌, ◌++◌, reverse, Result, Ok, Err, refl, sym, ap, ◌∙◌, append_assoc}
use Rattle.std.specs.Prelude.{if◌then◌else◌}
use mathlib.Core.List.{reverse-cons}
use Rattle.list_laws.specs.Outcome.{◌>>=◌}

-- both steps gave something
pub given : {A B F : Type 0} (r : Result A F) (next : A → Result B F) (y : B) → r >>= next ≡ Ok y → (x : A) × (r ≡ Ok x) × (next x ≡ Ok y)
given (Ok x) next y e = (x, refl, e)
given (Err fault) next y e = cc

pub same_value : {A F : Type 0} (x y : A) → ◌≡◌ {A = Result A F} (Ok x) (Ok y) → x ≡ y
same_value x y e = cc

-- the test was true, or false
pub given_if : {A F : Type 0} (b : Bool) (r : Result A F) (fault : F) (y : A) → (if b then r else Err fault) ≡ Ok y → (b ≡ true) × (r ≡ Ok y)
given_if true r fault y e = (refl, e)
given_if false r fault y e = cc

pub given_unless : {A F : Type 0} (b : Bool) (r : Result A F) (fault : F) (y : A) → (if b then Err fault else r) ≡ Ok y → (b ≡ false) × (r ≡ Ok y)
given_unless true r fault y e = cc
given_unless false r fault y e = (refl, e)

-- the latest element first, in front of others
pub reverse-onto : {A : Type 0} (x : A) (xs past : List A) → reverse xs ++ (x ∷ past) ≡ reverse (x ∷ xs) ++ past
reverse-onto {A} x xs past = sym (ap (λ (r : List A). r ++ past) (reverse-cons x xs) ∙ append_assoc (reverse xs) (x ∷ []) past)
