-- Lists that are made one behind another.
use Rattle.std.proofs.Common.{◌≡◌, ℕ, inl, inr, List, [], ◌∷◌, ◌++◌, length, map, get_or, Some, slice_get, subst, sym, ap, ◌∙◌}
use Rattle.std.proofs.lemmas.List.{length-map, map-append}
use Rattle.std.proofs.lemmas.Option.{get_or_from_slice_get}
use Rattle.list_laws.proofs.Places.{slice_get-push}

-- what holds of each place holds with one more
pub each-pushed : {A B : Type 0} (P : ℕ → A → B → Type 0) (xs : List A) (ys longer : List B) (y : B) → longer ≡ ys ++ y ∷ [] → ((x : A) → slice_get xs (length ys) ≡ Some x → P (length ys) x y)
    → ((i : ℕ) (x : A) (z : B) → slice_get xs i ≡ Some x → slice_get ys i ≡ Some z → P i x z) → (i : ℕ) (x : A) (z : B) → slice_get xs i ≡ Some x → slice_get longer i ≡ Some z → P i x z
each-pushed {A} {B} P xs ys longer y is last before i x z there found =
    elim (slice_get-push ys y z i (subst (λ (l : List B). slice_get l i ≡ Some z) is found)) [
      | inl old ↦ before i x z there old.1
      | inr new ↦ subst (λ (w : B). P i x w) new.1 (subst (λ (n : ℕ). slice_get xs n ≡ Some x → P n x y) (sym new.0) (last x) there)
    ]

-- the same where the list that is made is seen item by item
pub each-mapped : {A B C : Type 0} (P : ℕ → A → C → Type 0) (f : B → C) (xs : List A) (ys longer : List B) (y : B) (n : ℕ) → longer ≡ ys ++ y ∷ [] → length ys ≡ n → ((x : A) → slice_get xs n ≡ Some x → P n x (f y))
    → ((i : ℕ) (x : A) (z : C) → slice_get xs i ≡ Some x → slice_get (map f ys) i ≡ Some z → P i x z) → (i : ℕ) (x : A) (z : C) → slice_get xs i ≡ Some x → slice_get (map f longer) i ≡ Some z → P i x z
each-mapped {A} {B} {C} P f xs ys longer y n is count last before =
    let long : length (map f ys) ≡ n = length-map ys f ∙ count in
    each-pushed P xs (map f ys) (map f longer) (f y) (ap (λ (l : List B). map f l) is ∙ map-append f ys (y ∷ [])) (subst (λ (m : ℕ). (x : A) → slice_get xs m ≡ Some x → P m x (f y)) (sym long) last) before

-- what is true of the item that was read at a place is true of what stands there
pub at-index : {A : Type 0} (P : A → Type 0) (xs : List A) (n : ℕ) (item : A) → item ≡ get_or xs n item → P item → (x : A) → slice_get xs n ≡ Some x → P x
at-index P xs n item is h x there = subst P (is ∙ get_or_from_slice_get xs n x item there) h
