-- Reading one item after another, as far as a loop has come.
use Rattle.std.proofs.Common.{◌≡◌, ℕ, zero, suc, ◌+◌, ◌<◌, List, [], ◌∷◌, ◌++◌, length, drop, get_or, map, Result, Ok, Err, refl, sym, ap, ◌∙◌, arith, append_assoc}
use Rattle.list_laws.specs.Outcome.{◌>>=◌, each}
use Rattle.filter_rule.specs.Faults.{Fault, Fails}
use Rattle.filter_rule.specs.declared.fault.PlanFault.{PlanFault}
use Rattle.filter_rule.specs.declared.fault.PlanFault.TheVariants as errors

abbrev pub with_front : {A : Type 0} → List A → Result (List A) Fault → Result (List A) Fault
with_front front r = r >>= λ ys. Ok (front ++ ys)

-- what is read of a whole list, after some items have been read
abbrev pub rest_of_each : {A B : Type 0} → (A → Result B Fault) → List B → List A → Result (List B) Fault
rest_of_each f front xs = with_front front (each f xs)

pub front_more : {A : Type 0} (front : List A) (y : A) (r : Result (List A) Fault) → with_front front (r >>= λ ys. Ok (y ∷ ys)) ≡ with_front (front ++ y ∷ []) r
front_more front y (Ok ys) = ap Ok (sym (append_assoc front (y ∷ []) ys))
front_more front y (Err e) = refl

-- an item more
pub rest_step : {A B : Type 0} (f : A → Result B Fault) (front : List B) (x : A) (xs : List A) (y : B) → f x ≡ Ok y → rest_of_each f front (x ∷ xs) ≡ rest_of_each f (front ++ y ∷ []) xs
rest_step f front x xs y e = rw e (front_more front y (each f xs))

-- a fault
pub rest_fault : {A B : Type 0} (f : A → Result B Fault) (front : List B) (x : A) (xs : List A) (e : Fault) → f x ≡ Err e → rest_of_each f front (x ∷ xs) ≡ Err e
rest_fault f front x xs e h = rw h refl

pub append_none : {A : Type 0} (s : List A) → s ++ [] ≡ s
append_none [] = refl
append_none (x ∷ s) = ap (λ r. x ∷ r) (append_none s)

pub map_drop_at : {A B : Type 0} (v : A → B) (xs : List A) (i : ℕ) (d : A) → i < length xs → drop i (map v xs) ≡ v (get_or xs i d) ∷ drop (i + 1) (map v xs)
map_drop_at v [] i d h = absurd (omega arith)
map_drop_at v (x ∷ xs) zero d h = refl
map_drop_at v (x ∷ xs) (suc i) d h = let e : suc i + 1 ≡ suc (i + 1) = omega arith in rw e (map_drop_at v xs i d (omega arith))

-- a turn of the loop
pub turn : {A B C : Type 0} (f : A → Result B Fault) (v : C → A) (xs : List C) (i : ℕ) (d : C) (front grown : List B) (y : B) (whole : Result (List B) Fault)
    → i < length xs → d ≡ get_or xs i d → f (v d) ≡ Ok y → grown ≡ front ++ y ∷ [] → rest_of_each f front (drop i (map v xs)) ≡ whole → rest_of_each f grown (drop (i + 1) (map v xs)) ≡ whole
turn f v xs i d front grown y whole within item ok more so_far =
    rw more (sym (rest_step f front (v d) (drop (i + 1) (map v xs)) y ok)
    ∙ ap (λ x. rest_of_each f front (v x ∷ drop (i + 1) (map v xs))) item
    ∙ ap (rest_of_each f front) (sym (map_drop_at v xs i d within)) ∙ so_far)

-- a turn that ends in a fault
pub turn_fault : {A B C : Type 0} (f : A → Result B Fault) (v : C → A) (xs : List C) (i : ℕ) (d : C) (front : List B) (whole : Result (List B) Fault)
    → i < length xs → d ≡ get_or xs i d → rest_of_each f front (drop i (map v xs)) ≡ whole → (e : Fault) → f (v d) ≡ Err e → whole ≡ Err e
turn_fault f v xs i d front whole within item so_far e is =
    sym so_far ∙ ap (rest_of_each f front) (map_drop_at v xs i d within)
    ∙ ap (λ x. rest_of_each f front (v x ∷ drop (i + 1) (map v xs))) (sym item) ∙ rest_fault f front (v d) (drop (i + 1) (map v xs)) e is

pub drop_at : {A : Type 0} (xs : List A) (i : ℕ) (d : A) → i < length xs → drop i xs ≡ get_or xs i d ∷ drop (i + 1) xs
drop_at [] i d h = absurd (omega arith)
drop_at (x ∷ xs) zero d h = refl
drop_at (x ∷ xs) (suc i) d h = let e : suc i + 1 ≡ suc (i + 1) = omega arith in rw e (drop_at xs i d (omega arith))

-- what is wrong with a part is wrong with the whole
pub fails_along : {Y Z : Type 0} (e : PlanFault) (r : Result Y Fault) (s : Result Z Fault) → ((f : Fault) → r ≡ Err f → s ≡ Err f) → Fails e r → Fails e s
fails_along errors.Memory r s h k = tt
fails_along errors.Json r s h k = h _ k
fails_along errors.Shape r s h k = h _ k
fails_along errors.Limit r s h k = h _ k
fails_along (errors.NoSuchColumn table column) r s h k = h _ k
fails_along (errors.KeyType table column) r s h k = h _ k
fails_along (errors.BadRule stream rule) r s h k = h _ k
fails_along (errors.ColumnsDiffer table) r s h k = h _ k
