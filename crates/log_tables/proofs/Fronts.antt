-- What is read so far, before what is read of the rest.
use Rattle.std.proofs.Common.{◌≡◌, List, [], ◌∷◌, ◌++◌, append_assoc, Result, Ok, Err, refl, ap}
use Rattle.list_laws.specs.Outcome.{◌>>=◌}

-- items before those that are read, and the same of items with what stands behind them
abbrev pub with_front : {X F : Type 0} → List X → Result (List X) F → Result (List X) F
with_front xs (Ok ys) = Ok (xs ++ ys)
with_front xs (Err fault) = Err fault

abbrev pub with_first : {X R F : Type 0} → List X → Result (List X × R) F → Result (List X × R) F
with_first xs (Ok y) = Ok (xs ++ y.0, y.1)
with_first xs (Err fault) = Err fault

-- a step that was taken
pub first_step : {A B F : Type 0} (r : Result A F) (step : A → Result B F) (y : B) → r >>= step ≡ Ok y → (x : A) × (r ≡ Ok x) × (step x ≡ Ok y)
first_step (Ok x) step y e = (x, refl, e)
first_step (Err fault) step y e = cc

-- nothing before, and one more
front-none : {X F : Type 0} (r : Result (List X) F) → with_front [] r ≡ r
front-none (Ok x) = refl
front-none (Err fault) = refl

pub front-start : {X F : Type 0} (xs : List X) (r : Result (List X) F) → xs ≡ [] → with_front xs r ≡ r
front-start xs r none = rw none (front-none r)

pub front-more : {X F : Type 0} (xs : List X) (x : X) (r : Result (List X) F) → with_front (xs ++ x ∷ []) r ≡ with_front xs (r >>= λ others. Ok (x ∷ others))
front-more xs x (Ok y) = ap Ok (append_assoc xs (x ∷ []) y)
front-more xs x (Err fault) = refl

pub first-none : {X R F : Type 0} (r : Result (List X × R) F) → with_first [] r ≡ r
first-none (Ok x) = refl
first-none (Err fault) = refl

pub first-more : {X R F : Type 0} (xs : List X) (x : X) (r : Result (List X × R) F) → with_first (xs ++ x ∷ []) r ≡ with_first xs (r >>= λ others. Ok (x ∷ others.0, others.1))
first-more {X} {R} {F} xs x (Ok y) =
    let whole : (xs ++ x ∷ []) ++ y.0 ≡ xs ++ (x ∷ y.0) = append_assoc xs (x ∷ []) y.0 in
    rw whole refl
first-more xs x (Err fault) = refl
