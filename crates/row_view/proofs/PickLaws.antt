-- Some columns of a row.
use Rattle.std.proofs.Common.{◌≡◌, ℕ, zero, suc, ◌+◌, ◌<◌, List, [], ◌∷◌, drop, length, Option, Some, None, refl, ap, ◌∙◌, arith}
use Rattle.std.proofs.lemmas.Option.{same_Some, none-some}
use Rattle.std.specs.Prelude.{slice_get, slice_index_or}
use Rattle.std.proofs.lemmas.List.{length-map}
use Rattle.row_view.specs.Row.{RowValue}
use Rattle.row_view.specs.Picked.{picked}

pub length-picked : (places : List ℕ) (row : RowValue) → length (picked places row) ≡ length places
length-picked places row = length-map places (λ place. slice_index_or row place None)

-- places in order from one on are the columns from there on
from_one : (row : RowValue) (places : List ℕ) (rest : RowValue) (k : ℕ) → length places ≡ length rest → ((j : ℕ) → j < length places → slice_get places j ≡ Some (k + j))
    → ((j : ℕ) (c : Option (List ℕ)) → slice_get rest j ≡ Some c → slice_index_or row (k + j) None ≡ c) → picked places row ≡ rest
from_one row [] [] k count each is = refl
from_one row [] (c ∷ cs) k count each is = absurd (omega (arith, count))
from_one row (p ∷ ps) [] k count each is = absurd (omega (arith, count))
from_one row (p ∷ ps) (c ∷ cs) k count each is =
    let first : Some p ≡ Some (k + 0) = each 0 (omega arith) in
    let at_k : p ≡ k + 0 = cc in
    let here : slice_index_or row p None ≡ c = ap (λ (q : ℕ). slice_index_or row q None) at_k ∙ is 0 c refl in
    let others : picked ps row ≡ cs = from_one row ps cs (k + 1) (omega (arith, count))
    (λ j h. let next : k + suc j ≡ k + 1 + j = omega arith in each (suc j) (omega (arith, h)) ∙ ap Some next)
    (λ j d h. let next : k + 1 + j ≡ k + suc j = omega arith in ap (λ (q : ℕ). slice_index_or row q None) next ∙ is (suc j) d h) in
    cc

index_is : (row : RowValue) (j : ℕ) (c : Option (List ℕ)) → slice_get row j ≡ Some c → slice_index_or row (0 + j) None ≡ c
index_is [] j c e = absurd cc
index_is (x ∷ xs) zero c e = cc
index_is (x ∷ xs) (suc j) c e =
    let next : 0 + suc j ≡ suc (0 + j) = omega arith in
    rw next (index_is xs j c e)

-- all places in order are the row
pub all_picked : (places : List ℕ) (row : RowValue) → length places ≡ length row → ((j : ℕ) → j < length places → slice_get places j ≡ Some j) → picked places row ≡ row
all_picked places row count each = from_one row places row 0 count (λ j h. let same : j ≡ 0 + j = omega arith in each j h ∙ ap Some same) (λ j c h. index_is row j c h)

-- from a place on, its column is the first one
pub picked_from : (places : List ℕ) (row : RowValue) (i place : ℕ) → slice_get places i ≡ Some place → picked (drop i places) row ≡ slice_index_or row place None ∷ picked (drop (suc i) places) row
picked_from [] row i place e = absurd (none-some place e)
picked_from (p ∷ ps) row zero place e = ap (λ (q : ℕ). slice_index_or row q None ∷ picked ps row) (same_Some p place e)
picked_from (p ∷ ps) row (suc i) place e = picked_from ps row i place e

read_place : (row : RowValue) (place : ℕ) (v : Option (List ℕ)) → slice_get row place ≡ Some v → slice_index_or row place None ≡ v
read_place [] place v e = absurd (none-some v e)
read_place (x ∷ row) zero v e = same_Some x v e
read_place (x ∷ row) (suc place) v e = read_place row place v e

-- the columns that are still to come and those at the places still to come, one further
module _ (places : List ℕ) (row columns rest : RowValue) (i place : ℕ) (column at_place : Option (List ℕ)) (there : slice_get places i ≡ Some place) (is : slice_get row place ≡ Some at_place) (next : columns ≡ column ∷ rest) where
  from_here : picked (drop i places) row ≡ at_place ∷ picked (drop (i + 1) places) row
  from_here =
      let number : suc i ≡ i + 1 = omega arith in
      picked_from places row i place there
      ∙ ap (λ (c : Option (List ℕ)). c ∷ picked (drop (suc i) places) row) (read_place row place at_place is)
      ∙ ap (λ (n : ℕ). at_place ∷ picked (drop n places) row) number

  pub stops_with : columns ≡ picked (drop i places) row → column ≡ at_place
  stops_with e = let here = from_here in cc

  pub goes_with : column ≡ at_place → (whole : Type 0) → (columns ≡ picked (drop i places) row → whole) × (whole → columns ≡ picked (drop i places) row)
      → (rest ≡ picked (drop (i + 1) places) row → whole) × (whole → rest ≡ picked (drop (i + 1) places) row)
  goes_with same whole so_far = (λ e. so_far.0 (let here = from_here in cc), λ h. let e = so_far.1 h in let here = from_here in cc)

-- no column is left where one is to be picked
pub ends_early : (places : List ℕ) (row : RowValue) (i : ℕ) → i < length places → [] ≡ picked (drop i places) row → ⊥
ends_early [] row i less e = omega (arith, less)
ends_early (p ∷ ps) row zero less e = cc
ends_early (p ∷ ps) row (suc i) less e = ends_early ps row i (omega (arith, less)) e
