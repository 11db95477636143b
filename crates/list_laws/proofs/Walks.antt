-- A loop over a list, one element on.
use Rattle.std.proofs.Common.{◌≡◌, ◌<◌, ◌+◌, ℕ, List, ◌∷◌, ◌++◌, length, drop, get_or, ap, sym, ◌∙◌}
use Rattle.std.proofs.lemmas.List.{append_assoc, drop_more}

-- what is made so far, and what the others make, is all: one element further
pub turn : {A : Type 0} (made more whole front rest : List A) → made ++ rest ≡ whole → rest ≡ front ++ more → (made ++ front) ++ more ≡ whole
turn {A} made more whole front rest is parts = append_assoc made front more ∙ ap (λ (xs : List A). made ++ xs) (sym parts) ∙ is

-- an element and what stands behind it
pub at_item : {A : Type 0} (xs : List A) (i : ℕ) (x : A) → i < length xs → x ≡ get_or xs i x → drop i xs ≡ x ∷ drop (i + 1) xs
at_item {A} xs i x less is = drop_more xs i x less ∙ ap (λ (y : A). y ∷ drop (i + 1) xs) (sym is)
