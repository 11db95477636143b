-- What a call that prints leaves on its writer: the whole text, or at a fault a beginning of it (this profile).
use Rattle.std.specs.Prelude.{◌≡◌, ℕ, ◌+◌, ◌%◌, ◌^◌, ◌<◌, ◌≤◌, List, ◌++◌, length, take, Option, Result, Ok, Err}
use Rattle.std.specs.Io.KnownBytes.{Appends, Keeps}

-- what is known of a writer: the bytes that it took, where they are known, and how many of its writes failed,
-- counted in 64 bits
pub record Written : Type 0 where
  pub bytes : Option (List ℕ)
  pub failures : ℕ

-- the count of failed writes behind one more
abbrev pub one_more : ℕ → ℕ
one_more failures = (failures + 1) % 2 ^ 64

-- these bytes were written and nothing else, and no write failed
pub record IsWritten (old new : Written) (text : List ℕ) : Type 0 where
  pub appended : Appends old.bytes new.bytes text
  pub sound : new.failures ≡ old.failures

-- the text up to this rest was written and nothing else, and then a write failed
pub record IsBrokenOff (old new : Written) (text rest : List ℕ) : Type 0 where
  pub printed : List ℕ
  pub parts : text ≡ printed ++ rest
  pub appended : Appends old.bytes new.bytes printed
  pub failed : new.failures ≡ one_more old.failures

-- a beginning of the text was written and nothing else, and then a write failed
abbrev pub BreaksOff : Written → Written → List ℕ → Type 0
BreaksOff old new text = (rest : List ℕ) × IsBrokenOff old new text rest

-- the whole text was written, or at a fault a beginning of it; a fault comes of a write that failed in this call
abbrev pub Prints : {X E : Type 0} → Result X E → Written → Written → List ℕ → Type 0
Prints (Ok x) old new text = IsWritten old new text
Prints (Err fault) old new text = BreaksOff old new text

-- one write took some bytes from the front of a piece, none only where it is empty; or it failed and took none
pub record IsTaken (old new : Written) (piece : List ℕ) (count : ℕ) : Type 0 where
  pub within : count ≤ length piece
  pub some : 0 < length piece → 0 < count
  pub written : IsWritten old new (take count piece)

pub record IsFailed (old new : Written) : Type 0 where
  pub nothing : Keeps old.bytes new.bytes
  pub failed : new.failures ≡ one_more old.failures

-- ---- behind text that waits

-- the text was added behind what waited: some of both was written, and the rest waits
pub record IsAdded (old : Written) (waited : List ℕ) (new : Written) (waits text : List ℕ) : Type 0 where
  pub gone : List ℕ
  pub parts : waited ++ text ≡ gone ++ waits
  pub written : IsWritten old new gone

-- the whole text was added behind what waited, or at a fault a beginning of both was written
abbrev pub Adds : {X E : Type 0} → Result X E → Written → List ℕ → Written → List ℕ → List ℕ → Type 0
Adds (Ok x) old waited new waits text = IsAdded old waited new waits text
Adds (Err fault) old waited new waits text = BreaksOff old new (waited ++ text)
