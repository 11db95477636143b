-- What leaves the front of a page as it is.
use Rattle.std.proofs.Common.{◌≡◌, ℕ, zero, suc, ◌<◌, ◌≤◌, List, [], ◌∷◌, length, refl, arith}
use Rattle.std.specs.List.{insert}
use Rattle.target_tables.specs.Fronts.{first_front}

-- an entry that is put in behind the first
pub first_front-insert : {K V : Type 0} (front : K → ℕ) (xs : List (K × V)) (place : ℕ) (e : K × V) → 0 < place → place ≤ length xs → first_front front (insert xs place e) ≡ first_front front xs
first_front-insert front xs zero e some within = absurd (omega (arith, some))
first_front-insert front [] (suc place) e some within = absurd (omega (arith, within))
first_front-insert front (x ∷ xs) (suc place) e some within = refl
