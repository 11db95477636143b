-- The values of a row that differ from another's, walked from the front.
use Rattle.std.proofs.Common.{◌≡◌, ◌∙◌, ◌⊎◌, inl, inr, ℕ, zero, suc, ◌+◌, ◌≤◌, Bool, true, false, List, [], ◌∷◌, ◌++◌, map, sym, ap, refl, append_assoc, append-nil, arith, drop, length, Option, Some}
use Rattle.std.specs.Prelude.{slice_get, if◌then◌else◌, ◌&&◌}
use Rattle.filter_rule.specs.PlanTable.{TableValue}
use Rattle.dump.specs.DumpRowsValue.{RowValue}
use Rattle.vdiff.specs.Report.{column_eq}
use Rattle.vdiff_patch.specs.Patch.{Cell, differing_from}
use Rattle.vdiff_sql.specs.Columns.{listed}
use Rattle.vdiff_sql.specs.Private.Differing.{assignments_at}
use Rattle.vdiff_sql.specs.Statements.{assignment}
use Rattle.vdiff_sql.proofs.ListLaws.{first_left}

-- a text more, where there is one
pushed_if : (between : List ℕ) (first same : Bool) (text : List ℕ) (others : List (List ℕ)) (old now whole : List ℕ) → now ≡ old ++ listed between first (if same then [] else (text ∷ [])) → old ++ listed between first ((if same then [] else (text ∷ [])) ++ others) ≡ whole
    → now ++ listed between (first && same) others ≡ whole
pushed_if between true true text others old now whole pushed so_far = rw pushed (rw (append-nil old) so_far)
pushed_if between false true text others old now whole pushed so_far = rw pushed (rw (append-nil old) so_far)
pushed_if between true false text others old now whole pushed so_far = rw pushed (simp (append_assoc, append-nil) (simp append_assoc at so_far))
pushed_if between false false text others old now whole pushed so_far = rw pushed (simp (append_assoc, append-nil) (simp append_assoc at so_far))

one_place : (table : TableValue) (i : ℕ) (value other : Option (List ℕ)) (rest : List Cell) (same : Bool)
    → map (assignment table) ((if same then [] else ((i, value) ∷ [])) ++ rest) ≡ (if same then [] else (assignment table (i, value) ∷ [])) ++ map (assignment table) rest
one_place table i value other rest true = refl
one_place table i value other rest false = refl

-- the values that differ from place i on: that of the place, and those behind it
place_left : (table : TableValue) (row there : RowValue) (i : ℕ) (value other : Option (List ℕ)) → slice_get row i ≡ Some value → slice_get there i ≡ Some other
    → map (assignment table) (differing_from i (drop i row) (drop i there)) ≡ assignments_at table i value other ++ map (assignment table) (differing_from (i + 1) (drop (i + 1) row) (drop (i + 1) there))
place_left table row there i value other here at_other =
    ap (λ (l : RowValue). map (assignment table) (differing_from i l (drop i there))) (first_left row i value here)
    ∙ ap (λ (l : RowValue). map (assignment table) (differing_from i (value ∷ drop (i + 1) row) l)) (first_left there i other at_other)
    ∙ one_place table i value other (differing_from (i + 1) (drop (i + 1) row) (drop (i + 1) there)) (column_eq value other)

-- a place more
pub place_more : (between : List ℕ) (first : Bool) (table : TableValue) (row there : RowValue) (i : ℕ) (value other : Option (List ℕ)) (old now whole : List ℕ) → slice_get row i ≡ Some value → slice_get there i ≡ Some other
    → now ≡ old ++ listed between first (assignments_at table i value other) → old ++ listed between first (map (assignment table) (differing_from i (drop i row) (drop i there))) ≡ whole
    → now ++ listed between (first && column_eq value other) (map (assignment table) (differing_from (i + 1) (drop (i + 1) row) (drop (i + 1) there))) ≡ whole
place_more between first table row there i value other old now whole here at_other pushed so_far =
    pushed_if between first (column_eq value other) (assignment table (i, value)) (map (assignment table) (differing_from (i + 1) (drop (i + 1) row) (drop (i + 1) there))) old now whole pushed
    (sym (ap (λ (l : List (List ℕ)). old ++ listed between first l) (place_left table row there i value other here at_other)) ∙ so_far)

-- nothing is left behind the last place of either
past : {X : Type 0} (xs : List X) (i : ℕ) → length xs ≤ i → drop i xs ≡ []
past [] zero le = refl
past [] (suc i) le = refl
past (x ∷ xs) zero le = absurd (omega (arith, le))
past (x ∷ xs) (suc i) le = past xs i (omega (arith, le))

none_of_there : (row : RowValue) (i : ℕ) → differing_from i row [] ≡ []
none_of_there [] i = refl
none_of_there (value ∷ row) i = refl

pub none_behind : (row there : RowValue) (i : ℕ) → (length row ≤ i) ⊎ (length there ≤ i) → differing_from i (drop i row) (drop i there) ≡ []
none_behind row there i (inl le) = ap (λ (l : RowValue). differing_from i l (drop i there)) (past row i le)
none_behind row there i (inr le) = ap (λ (l : RowValue). differing_from i (drop i row) l) (past there i le) ∙ none_of_there (drop i row) i

-- behind as many places as both have one of them is at its end
pub behind_either : (n a b i : ℕ) → (n ≡ a) ⊎ (n ≡ b) → n ≤ i → (a ≤ i) ⊎ (b ≤ i)
behind_either n a b i (inl is) le = inl (omega (arith, is, le))
behind_either n a b i (inr is) le = inr (omega (arith, is, le))
