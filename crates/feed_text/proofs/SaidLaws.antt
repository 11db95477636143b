-- How far a text was found to be the whole, a piece further.
use Rattle.std.proofs.Common.{◌≡◌, ℕ, List, [], ◌∷◌, ◌++◌, refl, sym, ap, ◌∙◌, append_assoc}
use Rattle.feed_text.specs.Private.SaidUpTo.{IsSaidUpTo}

-- nothing is said yet
pub begins : (text whole : List ℕ) → IsSaidUpTo text text whole whole
begins text whole = record { said = []; parts = refl; front = refl }

-- a piece more is said
pub goes : (text rest next whole left piece more : List ℕ) → left ≡ piece ++ more → rest ≡ piece ++ next → IsSaidUpTo text rest whole left → IsSaidUpTo text next whole more
goes text rest next whole left piece more l r s = record {
  said = s.said ++ piece;
  parts = s.parts ∙ ap (λ (x : List ℕ). s.said ++ x) l ∙ sym (append_assoc s.said piece more);
  front = s.front ∙ ap (λ (x : List ℕ). s.said ++ x) r ∙ sym (append_assoc s.said piece next);
}

-- all is said
pub ends : (text rest whole left : List ℕ) → left ≡ [] → IsSaidUpTo text rest whole left → text ≡ whole ++ rest
ends text rest whole left none s =
    s.front ∙ ap (λ (x : List ℕ). x ++ rest) (sym (append_nil s.said) ∙ sym (ap (λ (x : List ℕ). s.said ++ x) none) ∙ sym s.parts)
  where
    append_nil : (xs : List ℕ) → xs ++ [] ≡ xs
    append_nil [] = refl
    append_nil (x ∷ xs) = ap (λ (ys : List ℕ). x ∷ ys) (append_nil xs)

-- one piece behind another
pub piece_behind : (text middle rest front piece : List ℕ) → text ≡ front ++ middle → middle ≡ piece ++ rest → text ≡ (front ++ piece) ++ rest
piece_behind text middle rest front piece e f = e ∙ ap (λ (x : List ℕ). front ++ x) f ∙ sym (append_assoc front piece rest)
