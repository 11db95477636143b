-- The fronts of pages.
use Rattle.std.specs.Prelude.{ℕ, List, [], ◌∷◌}

-- the front of the first entry's key, 0 where there is none
abbrev pub first_front : {K V : Type 0} → (K → ℕ) → List (K × V) → ℕ
first_front front [] = 0
first_front front (e ∷ entries) = front e.0
