-- Lines, walked from the front.
use Rattle.std.proofs.Common.{◌≡◌, ◌∙◌, ◌⊎◌, inl, inr, ℕ, zero, suc, ◌+◌, ◌-◌, ◌<◌, ◌≤◌, List, [], ◌∷◌, ◌++◌, sym, ap, refl, append_assoc, append-nil, arith, drop, take, length, Option, Some}
use Rattle.std.specs.List.{flat_map}
use Rattle.std.specs.Prelude.{slice_get}
use Rattle.filter_rule.specs.PlanTable.{TableValue}
use Rattle.dump.specs.DumpRowsValue.{RowValue}
use Rattle.vdiff_text.specs.ShownDifferences.{both_lines, line_if_other, one_line, one_lines, row_column}

-- a text more
pub text_more : (old now text rest left whole : List ℕ) → left ≡ text ++ rest → now ≡ old ++ text → old ++ left ≡ whole → now ++ rest ≡ whole
text_more old now text rest left whole is pushed so_far =
    ap (λ (l : List ℕ). l ++ rest) pushed ∙ append_assoc old text rest ∙ ap (λ (l : List ℕ). old ++ l) (sym is) ∙ so_far

-- an item that is there is the first of what is left
first_left : {X : Type 0} (xs : List X) (i : ℕ) (x : X) → slice_get xs i ≡ Some x → drop i xs ≡ x ∷ drop (i + 1) xs
first_left [] i x there = cc
first_left (y ∷ xs) zero x there = let is : y ≡ x = cc in ap (λ z. z ∷ xs) is
first_left (y ∷ xs) (suc i) x there =
    let behind : suc i + 1 ≡ suc (i + 1) = omega arith in
    rw behind (first_left xs i x there)

pub one_left : (table : TableValue) (row : RowValue) (i : ℕ) (value : Option (List ℕ)) → slice_get row i ≡ Some value
    → one_lines table i (drop i row) ≡ one_line (row_column table i) value ++ one_lines table (i + 1) (drop (i + 1) row)
one_left table row i value here = ap (one_lines table i) (first_left row i value here)

pub both_left : (table : TableValue) (row there : RowValue) (i : ℕ) (value other : Option (List ℕ)) → slice_get row i ≡ Some value → slice_get there i ≡ Some other
    → both_lines table i (drop i row) (drop i there) ≡ line_if_other (row_column table i) value other ++ both_lines table (i + 1) (drop (i + 1) row) (drop (i + 1) there)
both_left table row there i value other here at_other =
    ap (λ (l : RowValue). both_lines table i l (drop i there)) (first_left row i value here)
    ∙ ap (λ (l : RowValue). both_lines table i (value ∷ drop (i + 1) row) l) (first_left there i other at_other)

-- nothing is left behind the last place of either
past : {X : Type 0} (xs : List X) (i : ℕ) → length xs ≤ i → drop i xs ≡ []
past [] zero le = refl
past [] (suc i) le = refl
past (x ∷ xs) zero le = absurd (omega (arith, le))
past (x ∷ xs) (suc i) le = past xs i (omega (arith, le))

none_of_there : (table : TableValue) (row : RowValue) (i : ℕ) → both_lines table i row [] ≡ []
none_of_there table [] i = refl
none_of_there table (value ∷ row) i = refl

pub none_behind : (table : TableValue) (row there : RowValue) (i : ℕ) → (length row ≤ i) ⊎ (length there ≤ i) → both_lines table i (drop i row) (drop i there) ≡ []
none_behind table row there i (inl le) = ap (λ (l : RowValue). both_lines table i l (drop i there)) (past row i le)
none_behind table row there i (inr le) = ap (λ (l : RowValue). both_lines table i (drop i row) l) (past there i le) ∙ none_of_there table (drop i row) i

-- behind as many places as both have one of them is at its end
pub behind_either : (n a b i : ℕ) → (n ≡ a) ⊎ (n ≡ b) → n ≤ i → (a ≤ i) ⊎ (b ≤ i)
behind_either n a b i (inl is) le = inl (omega (arith, is, le))
behind_either n a b i (inr is) le = inr (omega (arith, is, le))

-- ---- the first of a list

-- one more of so many
pub taken_more : {X : Type 0} (f : X → List ℕ) (x : X) (left others : List X) (n i : ℕ) (old now whole : List ℕ) → i < n → left ≡ x ∷ others → now ≡ old ++ f x → old ++ flat_map f (take (n - i) left) ≡ whole → now ++ flat_map f (take (n - (i + 1)) others) ≡ whole
taken_more f x left others n i old now whole lt is pushed so_far =
    let some : n - i ≡ suc (n - (i + 1)) = omega (arith, lt) in
    text_more old now (f x) (flat_map f (take (n - (i + 1)) others)) (flat_map f (take (n - i) left)) whole
    (ap (λ l. flat_map f (take (n - i) l)) is ∙ ap (λ m. flat_map f (take m (x ∷ others))) some) pushed so_far

take_none : {X : Type 0} (xs : List X) (m : ℕ) → xs ≡ [] → take m xs ≡ []
take_none xs zero none = refl
take_none [] (suc m) none = refl
take_none (x ∷ xs) (suc m) none = cc

-- no more are wanted, or none is left
pub taken_all : {X : Type 0} (f : X → List ℕ) (left : List X) (n i : ℕ) (now whole : List ℕ) → (n ≤ i) ⊎ (left ≡ []) → now ++ flat_map f (take (n - i) left) ≡ whole → now ≡ whole
taken_all f left n i now whole (inl le) so_far =
    let none : n - i ≡ 0 = omega (arith, le) in
    sym (append-nil now) ∙ sym (ap (λ m. now ++ flat_map f (take m left)) none) ∙ so_far
taken_all f left n i now whole (inr none) so_far =
    sym (append-nil now) ∙ sym (ap (λ l. now ++ flat_map f l) (take_none left (n - i) none)) ∙ so_far
