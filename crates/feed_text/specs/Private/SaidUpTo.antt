-- How far a text was found to be the whole of what is to be said.
use Rattle.std.specs.Prelude.{◌≡◌, ℕ, List, ◌++◌}

-- of the whole so much is left, and the text up to its rest is what stands before that
pub record IsSaidUpTo (text rest whole left : List ℕ) : Type 0 where
  pub said : List ℕ
  pub parts : whole ≡ said ++ left
  pub front : text ≡ said ++ rest
