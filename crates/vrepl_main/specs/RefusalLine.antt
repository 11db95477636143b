-- The line of a refusal, whatever is refused (this profile).
use Rattle.std.specs.Prelude.{ℕ, List, [], ◌∷◌, ◌++◌, codes, decimal}

-- `refused`, the number, and what stands behind it, with its LF
abbrev pub line_of : ℕ → List ℕ → List ℕ
line_of number details = codes "refused " ++ decimal number ++ details ++ 10 ∷ []
