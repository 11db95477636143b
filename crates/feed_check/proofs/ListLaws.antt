-- Loops over changes and groups, one on.
use Rattle.std.proofs.Common.{◌≡◌, ◌<◌, ℕ, map, get_or, List, [], ◌∷◌, ◌++◌, length, Some, Result, Ok, Err, refl, ap, sym, ◌∙◌, subst}
use Rattle.std.specs.Prelude.{slice_get}
use Rattle.std.proofs.lemmas.List.{append_assoc, append-nil, get_or-map, length-map}
use Rattle.std.proofs.lemmas.Option.{slice_get-get_or}
use Rattle.list_laws.specs.Outcome.{◌>>=◌, each}

-- ---- the changes of a group

-- what is pushed is taken off the front of what is left
pub moved : {A : Type 0} (done more here rest left whole : List A) → more ≡ done ++ here → left ≡ here ++ rest → done ++ left ≡ whole → more ++ rest ≡ whole
moved done more here rest left whole m l h =
    ap (λ xs. xs ++ rest) m ∙ append_assoc done here rest ∙ ap (λ xs. done ++ xs) (sym l) ∙ h

-- ---- steps for each

-- the steps of a list of which those before are made
abbrev pub in_front : {A F : Type 0} → List A → Result (List A) F → Result (List A) F
in_front front others = others >>= λ rest. Ok (front ++ rest)

pub starts : {A F : Type 0} (r : Result (List A) F) (front : List A) → front ≡ [] → r ≡ in_front front r
starts (Ok rest) front e = ap (λ xs. Ok (xs ++ rest)) (sym e)
starts (Err fault) front e = refl

nested : {A F : Type 0} (front : List A) (x : A) (r : Result (List A) F) → in_front front (r >>= λ rest. Ok (x ∷ rest)) ≡ in_front (front ++ x ∷ []) r
nested front x (Ok rest) = ap Ok (sym (append_assoc front (x ∷ []) rest))
nested front x (Err fault) = refl

-- a step more
pub each-goes : {A B F : Type 0} (step : A → Result B F) (front : List B) (x : A) (xs : List A) (y : B) → step x ≡ Ok y
    → in_front front (each step (x ∷ xs)) ≡ in_front (front ++ y ∷ []) (each step xs)
each-goes {A} {B} {F} step front x xs y e =
    ap (λ (r : Result B F). in_front front (r >>= λ z. each step xs >>= λ ys. Ok (z ∷ ys))) e ∙ nested front y (each step xs)

-- the first fault
pub each-stops : {A B F : Type 0} (step : A → Result B F) (front : List B) (x : A) (xs : List A) (fault : F) → step x ≡ Err fault
    → in_front front (each step (x ∷ xs)) ≡ Err fault
each-stops {A} {B} {F} step front x xs fault e = ap (λ (r : Result B F). in_front front (r >>= λ z. each step xs >>= λ ys. Ok (z ∷ ys))) e

pub ends : {A F : Type 0} (front : List A) (whole : Result (List A) F) → whole ≡ in_front front (Ok []) → whole ≡ Ok front
ends front whole e = e ∙ ap Ok (append-nil front)

-- ---- the front of a list

-- ---- counts

-- ---- items by their places

pub item_at : {A B : Type 0} (f : A → B) (xs : List A) (i : ℕ) (x : A) (y : B) → i < length xs → x ≡ get_or xs i x → y ≡ f x → slice_get (map f xs) i ≡ Some y
item_at f xs i x y within at is =
    slice_get-get_or (map f xs) i y (subst (λ n. i < n) (sym (length-map xs f)) within)
    ∙ ap Some (get_or-map f xs i x y within ∙ ap f (sym at) ∙ sym is)
