-- Files of logs that are read one at a time (this profile).
use Rattle.std.specs.Prelude.{◌≡◌, ℕ, ◌+◌, List, [], ◌∷◌, length}
use Rattle.log_transcribe.specs.declared.files.LogBytes.{LogBytes}
use Rattle.log_transcribe.specs.declared.files.LogBytes.TheVariants.{Lent, Read}

-- the bytes of one
abbrev pub log_bytes : LogBytes → List ℕ
log_bytes (Lent bytes) = bytes.now
log_bytes (Read bytes) = bytes.items

-- files from the one at a place on gave these bytes, one file behind another
abbrev pub GaveFrom : (ℕ → List ℕ → Type 0) → ℕ → List (List ℕ) → Type 0
GaveFrom Gives file [] = Unit {0}
GaveFrom Gives file (bytes ∷ logs) = Gives file bytes × GaveFrom Gives (file + 1) logs

-- the first of so many files gave these bytes, and the others, whatever they have, may give those
pub record AreFirst (Gives : ℕ → List ℕ → Type 0) (many : ℕ) (logs others : List (List ℕ)) : Type 0 where
  pub gave : GaveFrom Gives 0 logs
  pub all : length logs + length others ≡ many
