-- What `status` leaves on its writer (this profile).
use Rattle.std.specs.Prelude.{◌≡◌, ℕ, List, Result, Ok, Err}
use Rattle.printing.specs.Printing.{Written, IsWritten, BreaksOff}
use Rattle.status_said.specs.declared.printed.StatusEnd.{StatusEnd}
use Rattle.status_said.specs.declared.printed.StatusEnd.TheVariants.{Printed, Broken, Memory, Unwritten}

-- a text was printed whole; or a beginning of it, and then a write failed
abbrev pub PrintsText : List ℕ → StatusEnd → Written → Written → Type 0
PrintsText text Printed old new = IsWritten old new text
PrintsText text (Broken file) old new = ⊥
PrintsText text Memory old new = ⊥
PrintsText text Unwritten old new = BreaksOff old new text

-- what is said, a text or the number of a file that is no checkpoint, is printed so; or nothing is, unless memory ran out
abbrev pub EndsSo : Result (List ℕ) ℕ → StatusEnd → Written → Written → Type 0
EndsSo said Printed old new = (text : List ℕ) × (said ≡ Ok text) × PrintsText text Printed old new
EndsSo said (Broken file) old new = (said ≡ Err file) × (new ≡ old)
EndsSo said Memory old new = new ≡ old
EndsSo said Unwritten old new = (text : List ℕ) × (said ≡ Ok text) × PrintsText text Unwritten old new
