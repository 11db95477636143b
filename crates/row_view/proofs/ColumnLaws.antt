-- The columns as a function are the columns as a relation, and no others.
use Rattle.std.proofs.Common.{◌≡◌, ℕ, zero, suc, ℤ, pos, negsuc, ◌+◌, ◌<◌, List, [], ◌∷◌, length, take, drop, Option, Some, refl, sym, ap, ◌∙◌, arith}
use Rattle.std.specs.Prelude.{slice_get, IsTrue, nat_eq}
use Rattle.std.proofs.lemmas.Bool.Decides.{nat_tests}
use Rattle.std.proofs.lemmas.List.{drop-drop}
use Rattle.row_view.specs.Row.{size_of_all, column_from, AreColumns, columns_over}

pub length-columns_over : (values : List ℕ) (lengths : List ℤ) → length (columns_over values lengths) ≡ length lengths
length-columns_over values [] = refl
length-columns_over values (pos n ∷ ns) = ap suc (length-columns_over (drop n values) ns)
length-columns_over values (negsuc n ∷ ns) = ap suc (length-columns_over values ns)

column_from-drop : (values : List ℕ) (n start : ℕ) (length : ℤ) → column_from (drop n values) start length ≡ column_from values (n + start) length
column_from-drop values n start (pos m) = ap (λ xs. Some (take m xs)) (drop-drop start n values)
column_from-drop values n start (negsuc m) = refl

column_from-zero : (values : List ℕ) (start : ℕ) (length : ℤ) → column_from values start length ≡ column_from values (0 + start) length
column_from-zero values start length = ap (λ k. column_from values k length) (omega arith)

-- each column of the function is the one of the relation
each_column : (values : List ℕ) (lengths : List ℤ) (i : ℕ) (n : ℤ) → slice_get lengths i ≡ Some n → slice_get (columns_over values lengths) i ≡ Some (column_from values (size_of_all (take i lengths)) n)
each_column values [] i n e = cc
each_column values (pos m ∷ ns) zero n e = let same : pos m ≡ n = cc in ap (λ k. Some (column_from values 0 k)) same
each_column values (negsuc m ∷ ns) zero n e = let same : negsuc m ≡ n = cc in ap (λ k. Some (column_from values 0 k)) same
each_column values (pos m ∷ ns) (suc i) n e = each_column (drop m values) ns i n e ∙ ap Some (column_from-drop values m (size_of_all (take i ns)) n)
each_column values (negsuc m ∷ ns) (suc i) n e = each_column values ns i n e ∙ ap Some (column_from-zero values (size_of_all (take i ns)) n)

pub AreColumns-columns_over : (values : List ℕ) (lengths : List ℤ) → AreColumns values lengths (columns_over values lengths)
AreColumns-columns_over values lengths = record { count = length-columns_over values lengths; each = each_column values lengths }

-- two lists of one length with the same elements
same_by_place : {A : Type 0} (xs ys : List A) → length xs ≡ length ys → ((i : ℕ) → i < length ys → slice_get xs i ≡ slice_get ys i) → xs ≡ ys
same_by_place [] [] count each = refl
same_by_place [] (y ∷ ys) count each = absurd (omega (arith, count))
same_by_place (x ∷ xs) [] count each = absurd (omega (arith, count))
same_by_place (x ∷ xs) (y ∷ ys) count each =
    let first : Some x ≡ Some y = each 0 (omega arith) in
    let heads : x ≡ y = cc in
    let tails : xs ≡ ys = same_by_place xs ys (omega (arith, count)) (λ i h. each (suc i) (omega (arith, h))) in
    cc

-- a place in the list has an element
element : (ns : List ℤ) (i : ℕ) → i < length ns → (n : ℤ) × (slice_get ns i ≡ Some n)
element [] i h = absurd (omega (arith, h))
element (n ∷ ns) zero h = (n, refl)
element (n ∷ ns) (suc i) h = element ns i (omega (arith, h))

-- the relation holds of no other list
pub columns_over-only : (values : List ℕ) (lengths : List ℤ) (columns : List (Option (List ℕ))) → AreColumns values lengths columns → columns ≡ columns_over values lengths
columns_over-only values lengths columns are =
    let count = length-columns_over values lengths in
    same_by_place columns (columns_over values lengths) (are.count ∙ sym count) (λ i h.
    let n = element lengths i (omega (arith, count, h)) in
    are.each i n.0 n.1 ∙ sym (each_column values lengths i n.0 n.1))

-- there are no columns exactly where there are no lengths
pub columns_over-empty : (values : List ℕ) (lengths : List ℤ) (n : ℕ) → n ≡ length lengths → (IsTrue (nat_eq n 0) → columns_over values lengths ≡ []) × (columns_over values lengths ≡ [] → IsTrue (nat_eq n 0))
columns_over-empty values [] n e = (λ _. refl, λ _. grind (arith, nat_tests, e))
columns_over-empty values (pos m ∷ ns) n e = (λ h. absurd (grind (arith, nat_tests, e, h)), λ h. cc)
columns_over-empty values (negsuc m ∷ ns) n e = (λ h. absurd (grind (arith, nat_tests, e, h)), λ h. cc)
