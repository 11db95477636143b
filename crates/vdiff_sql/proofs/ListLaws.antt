-- Texts of a list, walked from the front.
use Rattle.std.proofs.Common.{◌≡◌, ◌∙◌, ℕ, zero, suc, ◌+◌, eqb, Bool, false, List, [], ◌∷◌, ◌++◌, sym, ap, append_assoc, arith, drop, Some}
use Rattle.std.proofs.lemmas.Bool.Decides.{nat_tests}
use Rattle.std.specs.Prelude.{slice_get}
use Rattle.vdiff_sql.specs.Columns.{listed, parting}

-- one text more is added behind what parts it from the one before
pub listed_more : (old between text : List ℕ) (first next : Bool) (left others : List (List ℕ)) (whole now : List ℕ) → next ≡ false → left ≡ text ∷ others → now ≡ (old ++ parting first between) ++ text → old ++ listed between first left ≡ whole → now ++ listed between next others ≡ whole
listed_more old between text first next left others whole now later is pushed so_far =
    let split : old ++ ((parting first between ++ text) ++ listed between false others) ≡ whole = sym (ap (λ (l : List (List ℕ)). old ++ listed between first l) is) ∙ so_far in
    ap (λ (b : Bool). now ++ listed between b others) later
    ∙ ap (λ (l : List ℕ). l ++ listed between false others) (pushed ∙ append_assoc old (parting first between) text)
    ∙ append_assoc old (parting first between ++ text) (listed between false others)
    ∙ split

-- only place 0 is the first
pub not_first : (i : ℕ) → eqb (i + 1) 0 ≡ false
not_first i = grind (arith, nat_tests)

-- an item that is there is the first of what is left
pub first_left : {X : Type 0} (xs : List X) (i : ℕ) (x : X) → slice_get xs i ≡ Some x → drop i xs ≡ x ∷ drop (i + 1) xs
first_left [] i x there = cc
first_left (y ∷ xs) zero x there = let is : y ≡ x = cc in ap (λ z. z ∷ xs) is
first_left (y ∷ xs) (suc i) x there =
    let behind : suc i + 1 ≡ suc (i + 1) = omega arith in
    rw behind (first_left xs i x there)
