-- Facts of each pass, where a view is set and where one is added; the names of streams.
use Rattle.std.proofs.Common.{◌≡◌, ◌≢◌, ◌⊎◌, ◌==◌, ℕ, zero, suc, true, true≢false, List, [], ◌∷◌, ◌++◌, set, inl, inr, ⊎_elim, refl, sym, ap, ◌∙◌, subst}
use Rattle.std.proofs.lemmas.Bool.{or_cases, or_left, or_right}
use mathlib.Core.Option.{some, some-ne-none}
use lib.ListN.{get_elem?}
use Rattle.atomic_table.proofs.Lists.{at_set, at_snoc}
use Rattle.stream_worker.specs.Knowing.{Knows, names}
use Rattle.stream_worker.specs.Rule.{EachPass}

-- ---- views

-- a view that is set stands where one stood
pub set_there : {A : Type 0} (l : List A) (i : ℕ) (a b : A) → get_elem? l i ≡ some a → get_elem? (set l i b) i ≡ some b
set_there [] i a b e = absurd (some-ne-none a (sym e))
set_there (x ∷ xs) zero a b e = refl
set_there (x ∷ xs) (suc i) a b e = set_there xs i a b e

-- one view is set
pub each_set : (P : ℕ → Knows → Type 0) (views : List Knows) (pass : ℕ) (w : Knows) → P pass w
    → ((q : ℕ) (u : Knows) → q ≢ pass → get_elem? views q ≡ some u → P q u) → EachPass P (set views pass w)
each_set P views pass w mine others q u e =
    ⊎_elim (λ (x : (q ≡ pass) × (w ≡ u)). subst (λ (y : ℕ × Knows). P y.0 y.1) (λ i. (sym x.0 i, x.1 i)) mine)
    (λ (x : (q ≢ pass) × (get_elem? views q ≡ some u)). others q u x.0 x.1) (at_set views pass q w u e)

-- one view is added
pub each_added : (P : ℕ → Knows → Type 0) (views : List Knows) (w : Knows) → ((q : ℕ) → P q w) → EachPass P views → EachPass P (views ++ w ∷ [])
each_added P views w new old q u e =
    ⊎_elim (λ (x : get_elem? views q ≡ some u). old q u x) (λ (x : w ≡ u). subst (P q) x (new q)) (at_snoc views w u q e)

-- ---- names

pub named_before : (xs ys : List ℕ) (s : ℕ) → names xs s ≡ true → names (xs ++ ys) s ≡ true
named_before [] ys s e = absurd (true≢false (sym e))
named_before (t ∷ xs) ys s e =
    ⊎_elim (λ (x : (t == s) ≡ true). or_left (t == s) (names (xs ++ ys) s) x) (λ (x : names xs s ≡ true). or_right (t == s) (names (xs ++ ys) s) (named_before xs ys s x))
    (or_cases (t == s) (names xs s) e)

pub named_behind : (xs ys : List ℕ) (s : ℕ) → names ys s ≡ true → names (xs ++ ys) s ≡ true
named_behind [] ys s e = e
named_behind (t ∷ xs) ys s e = or_right (t == s) (names (xs ++ ys) s) (named_behind xs ys s e)

-- a stream of either
pub named_either : (xs ys : List ℕ) (s : ℕ) → names (xs ++ ys) s ≡ true → (names xs s ≡ true) ⊎ (names ys s ≡ true)
named_either [] ys s e = inr e
named_either (t ∷ xs) ys s e =
    ⊎_elim (λ (x : (t == s) ≡ true). inl (or_left (t == s) (names xs s) x))
    (λ (x : names (xs ++ ys) s ≡ true).
    ⊎_elim (λ (y : names xs s ≡ true). inl (or_right (t == s) (names xs s) y)) (λ (y : names ys s ≡ true). inr y) (named_either xs ys s x))
    (or_cases (t == s) (names (xs ++ ys) s) e)

-- no stream has no name
pub none_named : (xs : List ℕ) → xs ≡ [] → (s : ℕ) → names xs s ≡ true → ⊥
none_named xs none s e = true≢false (sym e ∙ ap (λ (l : List ℕ). names l s) none)

pub no_list : (xs ys : List ℕ) → xs ++ ys ≡ [] → (xs ≡ []) × (ys ≡ [])
no_list [] ys e = (refl, e)
no_list (x ∷ xs) ys e = cc
