-- A primary key as a plain value (this profile).
use Rattle.std.specs.Prelude.{ℕ, ◌≤◌, ℤ, List, [], ◌∷◌, length, All}
use Rattle.vindex.specs.NumberText.{IsNumber}

-- a part of a key: a number by value, or a byte string
pub data Part : Type 0 where
  number : ℤ → Part
  bytes : List ℕ → Part

-- a table's number in its plan, and the parts in key order
pub record KeyValue : Type 0 where
  pub table : ℕ
  pub parts : List Part

-- a number is one that a row can carry
abbrev pub IsPart : Part → Type 0
IsPart (number value) = IsNumber value
IsPart (bytes text) = Unit {0}

-- parts as a key can have them: 8 at most
pub record AreParts (parts : List Part) : Type 0 where
  pub few : length parts ≤ 8
  pub each_part : All IsPart parts

-- a number, or a byte string of up to 12 bytes, alone
abbrev pub LiesInPlace : List Part → Type 0
LiesInPlace (number value ∷ []) = Unit {0}
LiesInPlace (bytes text ∷ []) = length text ≤ 12
LiesInPlace parts = ⊥
