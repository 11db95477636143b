-- Places of a list behind a push, a write and a cut.
use Rattle.std.proofs.Common.{◌≡◌, ◌≢◌, ℕ, zero, suc, ◌-◌, ◌⊎◌, inl, inr, List, [], ◌∷◌, ◌++◌, length, take, Some, None, slice_get, set, refl, sym, ap, ◌∙◌, arith}
use Rattle.std.proofs.lemmas.Option.{same_Some}

-- ---- a push

-- ---- a write

-- what stands at the place of a write, or at another
pub slice_get-set : {A : Type 0} (xs : List A) (s : ℕ) (x y : A) (i : ℕ) → slice_get (set xs s x) i ≡ Some y → ((i ≡ s) × (x ≡ y)) ⊎ ((i ≢ s) × (slice_get xs i ≡ Some y))
slice_get-set [] s x y i e = cc
slice_get-set (z ∷ xs) zero x y zero e = inl (refl, same_Some x y e)
slice_get-set (z ∷ xs) zero x y (suc i) e = inr (omega arith, e)
slice_get-set (z ∷ xs) (suc s) x y zero e = inr (omega arith, e)
slice_get-set (z ∷ xs) (suc s) x y (suc i) e =
    elim (slice_get-set xs s x y i e) [
      | inl here ↦ inl (ap suc here.0, here.1)
      | inr other ↦ inr (let ne : i ≢ s = other.0 in omega arith, other.1)
    ]

-- ---- a cut

-- a front of a front
pub take-take : {A : Type 0} (n : ℕ) (xs : List A) → take n (take n xs) ≡ take n xs
take-take zero xs = refl
take-take (suc n) [] = refl
take-take {A} (suc n) (x ∷ xs) = ap (λ (ys : List A). x ∷ ys) (take-take n xs)

-- ---- the last element

-- a list with a last element is the rest and that one
pub parts_of_last : {A : Type 0} (xs : List A) (x : A) → slice_get xs (length xs - 1) ≡ Some x → (front : List A) × (xs ≡ front ++ x ∷ [])
parts_of_last [] x e = cc
parts_of_last {A} (y ∷ []) x e = ([], ap (λ (z : A). z ∷ []) (same_Some y x e))
parts_of_last {A} (y ∷ z ∷ xs) x e =
    let place : length (y ∷ z ∷ xs) - 1 ≡ suc (length (z ∷ xs) - 1) = omega arith in
    let there : slice_get (z ∷ xs) (length (z ∷ xs) - 1) ≡ Some x = sym (ap (λ (i : ℕ). slice_get (y ∷ z ∷ xs) i) place) ∙ e in
    let rest : (front : List A) × (z ∷ xs ≡ front ++ x ∷ []) = parts_of_last (z ∷ xs) x there in
    (y ∷ rest.0, ap (λ (ys : List A). y ∷ ys) rest.1)

-- a list without a last element is empty
pub empty_without_last : {A : Type 0} (xs : List A) → slice_get xs (length xs - 1) ≡ None → xs ≡ []
empty_without_last [] e = refl
empty_without_last (y ∷ []) e = cc
empty_without_last (y ∷ z ∷ xs) e =
    let place : length (y ∷ z ∷ xs) - 1 ≡ suc (length (z ∷ xs) - 1) = omega arith in
    let rest : z ∷ xs ≡ [] = empty_without_last (z ∷ xs) (sym (ap (slice_get (y ∷ z ∷ xs)) place) ∙ e) in
    cc
