-- Lists in which no text stands twice.
use Rattle.std.proofs.Common.{◌≡◌, ℕ, zero, suc, List, [], ◌∷◌, ◌++◌, Bool, true, false, cond, Some, Ok, Err, refl, sym, ap, subst, ◌∙◌}
use Rattle.std.specs.Prelude.{slice_get, ◌||◌}
use Rattle.std.specs.List.{list_any}
use Rattle.std.specs.Str.{bytes_eq}
use Rattle.std.proofs.lemmas.List.Folds.{list_any-append}
use Rattle.std.proofs.lemmas.Slice.Eq.{bytes_eq-Decides}
use Rattle.std.proofs.lemmas.Option.{same_Some}
use Rattle.std.proofs.lemmas.Bool.{or_parts}
use Rattle.filter_rule.specs.Document.{repeats, has_twice, distinct}
use Rattle.filter_rule.specs.Faults.{shape}
use Rattle.filter_rule.specs.WellFormed.{AreDistinct}
use Rattle.filter_rule.proofs.StepLaws.{read_as}

-- the texts are distinct, and none is among those before
record Fresh (before texts : List (List ℕ)) : Type 0 where
  apart : AreDistinct texts
  new : (i : ℕ) (text : List ℕ) → slice_get texts i ≡ Some text → list_any (λ t. bytes_eq text t) before ≡ false

apart_from : (s t : List ℕ) (before : List (List ℕ)) → list_any (λ u. bytes_eq t u) (before ++ s ∷ []) ≡ false → (list_any (λ u. bytes_eq t u) before ≡ false) × (bytes_eq t s ≡ false)
apart_from s t before h =
    let both = or_parts (list_any (λ u. bytes_eq t u) before) (bytes_eq t s || false) (sym (list_any-append (λ u. bytes_eq t u) before (s ∷ [])) ∙ h) in
    (both.0, (or_parts (bytes_eq t s) false both.1).0)

not_itself : (s : List ℕ) → bytes_eq s s ≡ false → ⊥
not_itself s differs = let yes : bytes_eq s s ≡ true = (bytes_eq-Decides s s).1 refl in cc

first_apart : (s : List ℕ) (ss before : List (List ℕ)) (j : ℕ) (x : List ℕ) → Fresh (before ++ s ∷ []) ss → s ≡ x → slice_get ss j ≡ Some x → ⊥
first_apart s ss before j x rest same is =
    not_itself s (subst (λ y. bytes_eq y s ≡ false) (sym same) (apart_from s x before (rest.new j x is)).1)

apart_more : (s : List ℕ) (ss before : List (List ℕ)) → Fresh (before ++ s ∷ []) ss → AreDistinct (s ∷ ss)
apart_more s ss before rest zero zero x a b = refl
apart_more s ss before rest zero (suc j) x a b = absurd (first_apart s ss before j x rest (same_Some s x a) b)
apart_more s ss before rest (suc i) zero x a b = absurd (first_apart s ss before i x rest (same_Some s x b) a)
apart_more s ss before rest (suc i) (suc j) x a b = ap suc (rest.apart i j x a b)

new_more : (s : List ℕ) (ss before : List (List ℕ)) → list_any (λ t. bytes_eq s t) before ≡ false → Fresh (before ++ s ∷ []) ss
    → (i : ℕ) (text : List ℕ) → slice_get (s ∷ ss) i ≡ Some text → list_any (λ t. bytes_eq text t) before ≡ false
new_more s ss before none rest zero text is = subst (λ x. list_any (λ t. bytes_eq x t) before ≡ false) (same_Some s text is) none
new_more s ss before none rest (suc i) text is = (apart_from s text before (rest.new i text is)).0

fresh : (before texts : List (List ℕ)) → repeats before texts ≡ false → Fresh before texts
fresh before [] h = record { apart = λ i j x a b. cc; new = λ i text is. cc }
fresh before (s ∷ ss) h =
    let parts = or_parts (list_any (λ t. bytes_eq s t) before) (repeats (before ++ s ∷ []) ss) h in
    let rest = fresh (before ++ s ∷ []) ss parts.1 in
    record { apart = apart_more s ss before rest; new = new_more s ss before parts.0 rest }

not_twice : (b : Bool) (texts names : List (List ℕ)) → cond b (Err shape) (read_as texts) ≡ Ok names → b ≡ false
not_twice true texts names h = cc
not_twice false texts names h = refl

pub distinct_apart : (texts names : List (List ℕ)) → distinct texts ≡ Ok names → AreDistinct texts
distinct_apart texts names h = (fresh [] texts (not_twice (has_twice texts) texts names h)).apart
