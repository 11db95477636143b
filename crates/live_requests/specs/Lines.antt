-- The lines of an input, as far as its bytes are known (this profile).
use Rattle.std.specs.Prelude.{◌≡◌, ◌≢◌, ◌⊎◌, ℕ, ◌^◌, ◌-◌, ◌<◌, ◌≤◌, Bool, true, false, List, ◌∷◌, ◌++◌, [], length, take, Option, None, Some}
use Rattle.std.specs.List.{AllByRecursion}
use Rattle.std.specs.Io.KnownBytes.{Consumes, IsAtEnd, Keeps}
use Rattle.live_requests.specs.declared.lines.Found.{Found}
use Rattle.live_requests.specs.declared.lines.Found.TheVariants.{Line, Long, End}
use Rattle.live_requests.specs.declared.lines.Taken.{Taken}

-- ---- bytes

-- the next byte is taken off an input; at its end there is none
abbrev pub TakesByte : Option (List ℕ) → Option (List ℕ) → Option ℕ → Type 0
TakesByte old new None = Keeps old new × IsAtEnd new
TakesByte old new (Some byte) = Consumes old new (byte ∷ [])

-- no LF is among these bytes
abbrev pub IsUnbroken : List ℕ → Type 0
IsUnbroken bytes = AllByRecursion (λ (byte : ℕ). byte ≢ 10) bytes

-- the most bytes of a line before the input's end; or before its LF, which counts
abbrev pub most_of : Bool → ℕ
most_of true = 65536
most_of false = 65535

-- these bytes are taken off an input: up to its end; or with the LF behind them, or as many as can be counted
abbrev pub AreTaken : Option (List ℕ) → Option (List ℕ) → List ℕ → Bool → Type 0
AreTaken old new bytes true = Consumes old new bytes × IsAtEnd new
AreTaken old new bytes false = Consumes old new (bytes ++ 10 ∷ []) ⊎ (Consumes old new bytes × (length bytes ≡ 2 ^ 64 - 1))

-- ---- lines

-- the bytes up to the next LF or the end are taken off, and the first 65,536 of them kept
pub record IsTaken (old new : Option (List ℕ)) (taken : Taken) (line : List ℕ) : Type 0 where
  pub bytes : List ℕ
  pub unbroken : IsUnbroken bytes
  pub count : length bytes ≡ taken.count
  pub first : line ≡ take 65536 bytes
  pub off : AreTaken old new bytes taken.ended

-- What stands next in an input and is taken off it: a line of at most 65,536 bytes, its LF among them; a longer one; or nothing, at its end.
abbrev pub IsFound : Option (List ℕ) → Option (List ℕ) → Found → List ℕ → Type 0
IsFound old new Line line = IsUnbroken line × ((ended : Bool) × (length line ≤ most_of ended) × AreTaken old new line ended)
IsFound old new Long line = (bytes : List ℕ) × IsUnbroken bytes × ((ended : Bool) × (most_of ended < length bytes) × AreTaken old new bytes ended)
IsFound old new End line = (line ≡ []) × Consumes old new [] × IsAtEnd new
