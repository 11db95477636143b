-- What stands at a place of a list, and what nothing is read of.
use Rattle.std.proofs.Common.{◌≡◌, ℕ, zero, suc, ◌+◌, ◌<◌, inl, inr, List, [], ◌∷◌, length, map, drop, get_or, Some, slice_get, sym, ap, subst, ◌∙◌, arith}
use Rattle.std.proofs.lemmas.Bool.{cases_lt}
use Rattle.std.proofs.lemmas.Option.{slice_get-get_or, same_Some, none-some}
use Rattle.checkpoint_core.specs.declared.fault.ReadFault.{ReadFault}
use Rattle.checkpoint_core.specs.declared.fault.ReadFault.TheVariants.{Broken, Memory}
use Rattle.checkpoint_core.specs.Fault.{IsNothing}

-- what is read at a place stands there
pub there_at : {A : Type 0} (xs : List A) (i : ℕ) (x : A) → i < length xs → x ≡ get_or xs i x → slice_get xs i ≡ Some x
there_at xs i x inside is = slice_get-get_or xs i x inside ∙ ap Some (sym is)

-- a fact of the first items holds of one more
pub up_to_more : {A : Type 0} (P : ℕ → A → Type 0) (xs : List A) (t : ℕ) (x : A) → slice_get xs t ≡ Some x → P t x → ((i : ℕ) (y : A) → i < t → slice_get xs i ≡ Some y → P i y)
    → (i : ℕ) (y : A) → i < t + 1 → slice_get xs i ≡ Some y → P i y
up_to_more {A} P xs t x there here earlier i y less at = elim (cases_lt i t) [
  | inl before ↦ earlier i y before at
  | inr behind ↦ (
      let is : t ≡ i = omega (arith, less, behind) in
      subst (λ (n : ℕ). P n y) is (subst (P t) (same_Some x y (sym there ∙ ap (slice_get xs) is ∙ at)) here))
]

-- where nothing is read of one thing, nothing is of another that has it
pub nothing_by : {A B : Type 0} (P : A → Type 0) (Q : B → Type 0) → (((x : A) → ¬ P x) → (y : B) → ¬ Q y) → (fault : ReadFault) → IsNothing P fault → IsNothing Q fault
nothing_by P Q f Broken h = f h
nothing_by P Q f Memory h = tt

-- items are left before the end
pub some_left : {A B : Type 0} (f : A → B) (xs : List A) (i : ℕ) → i < length xs → [] ≡ map f (drop i xs) → ⊥
some_left f [] i less e = omega (arith, less)
some_left f (x ∷ xs) zero less e = none-some (f x) (ap (λ ys. slice_get ys 0) e)
some_left f (x ∷ xs) (suc i) less e = let rest : suc i < suc (length xs) = less in some_left f xs i (omega (arith, rest)) e
