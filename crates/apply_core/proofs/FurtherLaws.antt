-- Of each stream the side on which it is further on, one after another.
use Rattle.std.proofs.Common.{◌≡◌, ℕ, zero, suc, ◌+◌, ◌<◌, ◌≤◌, ◌⊎◌, inl, inr, Bool, List, [], ◌∷◌, ◌++◌, length, Some, slice_get, refl, sym, ap, ◌∙◌, arith}
use Rattle.std.proofs.lemmas.Option.{slice_get_within}
use Rattle.std.proofs.Math.Nat.{eq-or-lt_of_le}
use Rattle.std.specs.Ordering.{is_lt}
use Rattle.target_tables.specs.declared.merge_side.MergeSide.{MergeSide}
use Rattle.board_laws.specs.Meaning.{State}
use Rattle.board_laws.specs.StateOrder.{state_cmp}
use Rattle.apply_core.specs.Private.Meeting.{IsFurther, side_by, AreSidesUpTo, AreFurtherSides}

-- ---- the sides

push_before : {A : Type 0} (xs : List A) (x : A) (i : ℕ) → i < length xs → slice_get (xs ++ x ∷ []) i ≡ slice_get xs i
push_before [] x i less = absurd (omega arith)
push_before (y ∷ xs) x zero less = refl
push_before (y ∷ xs) x (suc i) less = push_before xs x i (omega arith)

push_at : {A : Type 0} (xs : List A) (x : A) (i : ℕ) → i ≡ length xs → slice_get (xs ++ x ∷ []) i ≡ Some x
push_at [] x zero e = refl
push_at [] x (suc i) e = absurd (omega arith)
push_at (y ∷ xs) x zero e = absurd (omega arith)
push_at (y ∷ xs) x (suc i) e = push_at xs x i (omega arith)

-- one stream's side more
pub sided_more : (xs ys : List State) (n : ℕ) (sides : List MergeSide) (further : Bool) (side : MergeSide) → length sides ≡ n → AreSidesUpTo n xs ys sides → IsFurther xs ys n further → side ≡ side_by further → AreSidesUpTo (n + 1) xs ys (sides ++ side ∷ [])
sided_more xs ys n sides further side long h is by_it s x y less p q = by (eq-or-lt_of_le (let le : s ≤ n = omega (arith, less) in le))
  where
    by : (s ≡ n) ⊎ (s < n) → slice_get (sides ++ side ∷ []) s ≡ Some (side_by (is_lt (state_cmp x y)))
    by (inl same) = push_at sides side s (same ∙ sym long) ∙ ap (λ (one : MergeSide). Some one) (by_it ∙ ap side_by (is x y (sym (ap (slice_get xs) same) ∙ p) (sym (ap (slice_get ys) same) ∙ q)))
    by (inr before) = push_before sides side s (omega (arith, before, long)) ∙ h s x y before p q

pub all_sided : (xs ys : List State) (n : ℕ) (sides : List MergeSide) → length xs ≤ n → AreSidesUpTo n xs ys sides → AreFurtherSides xs ys sides
all_sided xs ys n sides most h s x y p q = let inside : s < length xs = slice_get_within xs s x p in h s x y (omega (arith, inside, most)) p q
