-- A dump with its name (this profile).
use Rattle.std.specs.Prelude.{ℕ, List}

-- its name, and its text
pub record NamedDump : Type 0 where
  pub name : List ℕ
  pub text : List ℕ
