-- Fronts of lists, and elements each of which has a property.
use Rattle.std.proofs.Common.{◌≡◌, ℕ, zero, suc, List, [], ◌∷◌, ◌++◌, length, take, min, refl, ap, ◌∙◌, arith}
use Rattle.std.specs.List.{AllByRecursion}
use Rattle.std.proofs.lemmas.List.{take_min}

-- ---- a front

-- a front of a front is a front
pub front_of : {A : Type 0} (m n : ℕ) (xs : List A) → (k : ℕ) × (take m (take n xs) ≡ take k xs)
front_of zero n xs = (0, refl)
front_of (suc m) zero xs = (0, refl)
front_of (suc m) (suc n) [] = (0, refl)
front_of {A} (suc m) (suc n) (x ∷ xs) =
    let rest : (k : ℕ) × (take m (take n xs) ≡ take k xs) = front_of m n xs in
    (suc rest.0, ap (λ (ys : List A). x ∷ ys) rest.1)

-- the front within a list's length
pub front_within : {A : Type 0} (n : ℕ) (xs : List A) → take (min (length xs) n) xs ≡ take n xs
front_within n xs =
    let same : min (length xs) n ≡ min n (length xs) = omega arith in
    ap (λ k. take k xs) same ∙ take_min n xs

-- the front as long as the first of two lists is that list
pub take-own : {A : Type 0} (xs ys : List A) → take (length xs) (xs ++ ys) ≡ xs
take-own [] ys = refl
take-own {A} (x ∷ xs) ys = ap (λ (zs : List A). x ∷ zs) (take-own xs ys)

-- ---- each element

pub each : {X : Type 0} (P Q : X → Type 0) → ((x : X) → P x → Q x) → (xs : List X) → AllByRecursion P xs → AllByRecursion Q xs
each P Q f [] h = tt
each P Q f (x ∷ xs) h = (f x h.0, each P Q f xs h.1)

pub All-append : {X : Type 0} (P : X → Type 0) (xs ys : List X) → AllByRecursion P xs → AllByRecursion P ys → AllByRecursion P (xs ++ ys)
All-append P [] ys h k = k
All-append P (x ∷ xs) ys h k = (h.0, All-append P xs ys h.1 k)
