-- What the values of a list say, one by one.
use Rattle.std.proofs.Common.{◌≡◌, List, [], ◌∷◌, map, Bool, refl, ap}
use Rattle.std.specs.Prelude.{◌||◌}
use Rattle.std.specs.List.{list_any}

pub list_any-map : {A B : Type 0} (is : B → Bool) (view : A → B) (xs : List A) → list_any is (map view xs) ≡ list_any (λ x. is (view x)) xs
list_any-map is view [] = refl
list_any-map is view (x ∷ xs) = ap (λ b. is (view x) || b) (list_any-map is view xs)
