-- What a line that is told piece by piece leaves on its writer (this profile).
use Rattle.std.specs.Prelude.{◌≡◌, ℕ, Bool, true, false, List, [], ◌++◌}
use Rattle.printing.specs.Printing.{Written, IsAdded, BreaksOff}

-- what waits to be written, and whether a write failed
pub record LineValue : Type 0 where
  pub waits : List ℕ
  pub failed : Bool

abbrev pub fresh : LineValue
fresh = record { waits = []; failed = false }

-- what a writer took, and the line behind that
pub record Place : Type 0 where
  pub written : Written
  pub line : LineValue

abbrev pub at : Written → LineValue → Place
at written line = record { written = written; line = line }

-- by whether a write had failed before, and has failed behind
abbrev pub TellsBy : Bool → Bool → Place → Place → List ℕ → Type 0
TellsBy false false old new text = IsAdded old.written old.line.waits new.written new.line.waits text
TellsBy false true old new text = BreaksOff old.written new.written (old.line.waits ++ text)
TellsBy true false old new text = ⊥
TellsBy true true old new text = new.written ≡ old.written

-- The text is told: where no write fails some of what waited and of it was written, and the rest waits; where one does a
-- beginning of both was written; and behind one that failed nothing is.
pub record Tells (old new : Place) (text : List ℕ) : Type 0 where
  pub is : TellsBy old.line.failed new.line.failed old new text

-- a part of the text is told, and this rest of it is left
pub record IsToldUpTo (old new : Place) (text rest : List ℕ) : Type 0 where
  pub done : List ℕ
  pub parts : text ≡ done ++ rest
  pub told : Tells old new done
