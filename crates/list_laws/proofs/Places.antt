-- What stands at a place of a list: behind a push, a write and a cut.
use Rattle.std.proofs.Common.{◌≡◌, ◌≢◌, ℕ, zero, suc, ◌<◌, ◌⊎◌, inl, inr, List, [], ◌∷◌, ◌++◌, length, take, Some, Ok, Err, Result, slice_get, set, refl, sym, ap, arith}
use Rattle.std.specs.Result.{ok_prefix}
use Rattle.std.proofs.lemmas.Option.{same_Some}
use Rattle.list_laws.proofs.Choices.{no_error, same_good}

-- ---- a place of a list

-- an empty list has no place
pub no_place : {A P : Type 0} (i : ℕ) (x : A) → slice_get [] i ≡ Some x → P
no_place i x e = cc

-- each place within the list has an element
pub place_of : {A : Type 0} (xs : List A) (i : ℕ) → i < length xs → (x : A) × (slice_get xs i ≡ Some x)
place_of [] i less = absurd (omega arith)
place_of (x ∷ xs) zero less = (x, refl)
place_of (x ∷ xs) (suc i) less = place_of xs i (omega arith)

-- ---- a push

-- an element is one of the others or the last
pub slice_get-push : {A : Type 0} (xs : List A) (x y : A) (i : ℕ) → slice_get (xs ++ x ∷ []) i ≡ Some y
    → ((i < length xs) × (slice_get xs i ≡ Some y)) ⊎ ((i ≡ length xs) × (x ≡ y))
slice_get-push [] x y zero e = inr (refl, same_Some x y e)
slice_get-push [] x y (suc i) e = cc
slice_get-push (z ∷ xs) x y zero e = inl (omega arith, e)
slice_get-push (z ∷ xs) x y (suc i) e =
    elim (slice_get-push xs x y i e) [
      | inl old ↦ inl (omega (arith, old.0), old.1)
      | inr last ↦ inr (ap suc last.0, last.1)
    ]

-- ---- a write

pub slice_get-set_same : {A : Type 0} (xs : List A) (s : ℕ) (x y : A) → slice_get xs s ≡ Some y → slice_get (set xs s x) s ≡ Some x
slice_get-set_same [] s x y e = cc
slice_get-set_same (z ∷ xs) zero x y e = refl
slice_get-set_same (z ∷ xs) (suc s) x y e = slice_get-set_same xs s x y e

pub slice_get-set_other : {A : Type 0} (xs : List A) (s : ℕ) (x : A) (i : ℕ) → i ≢ s → slice_get (set xs s x) i ≡ slice_get xs i
slice_get-set_other [] s x i ne = refl
slice_get-set_other (z ∷ xs) zero x zero ne = absurd (ne refl)
slice_get-set_other (z ∷ xs) zero x (suc i) ne = refl
slice_get-set_other (z ∷ xs) (suc s) x zero ne = refl
slice_get-set_other (z ∷ xs) (suc s) x (suc i) ne = slice_get-set_other xs s x i (λ e. ne (ap suc e))

-- ---- a cut

-- an element of a front is one of the list
pub slice_get-take : {A : Type 0} (n : ℕ) (xs : List A) (i : ℕ) (x : A) → slice_get (take n xs) i ≡ Some x → slice_get xs i ≡ Some x
slice_get-take zero xs i x e = cc
slice_get-take (suc n) [] i x e = cc
slice_get-take (suc n) (y ∷ xs) zero x e = e
slice_get-take (suc n) (y ∷ xs) (suc i) x e = slice_get-take n xs i x e

-- at a place within a front stands what stands there in the list
pub get_in_front : {A : Type 0} (n : ℕ) (xs : List A) (i : ℕ) → i < n → slice_get (take n xs) i ≡ slice_get xs i
get_in_front zero xs i less = absurd (omega (arith, less))
get_in_front (suc n) [] i less = refl
get_in_front (suc n) (x ∷ xs) zero less = refl
get_in_front (suc n) (x ∷ xs) (suc i) less = get_in_front n xs i (omega (arith, less))

-- ---- the results before the first error

-- what stands behind a front of the results before the first error, if it is one more result, is the next of them
pub one_longer : {A E : Type 0} (xs : List (Result A E)) (n : ℕ) (g : A) → slice_get xs (length (take n (ok_prefix xs))) ≡ Some (Ok g) → take n (ok_prefix xs) ++ g ∷ [] ≡ take (suc n) (ok_prefix xs)
one_longer [] n g h = no_place 0 (Ok g) h
one_longer (Err e ∷ xs) zero g h = no_error (Err e) g h refl
one_longer (Err e ∷ xs) (suc n) g h = no_error (Err e) g h refl
one_longer {A} {E} (Ok x ∷ xs) zero g h = ap (λ (y : A). y ∷ []) (sym (same_good (Ok x) x g h refl))
one_longer {A} {E} (Ok x ∷ xs) (suc n) g h = ap (λ (ys : List A). x ∷ ys) (one_longer xs n g h)
