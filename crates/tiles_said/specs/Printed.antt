-- What `tiles` leaves on its writer (this profile).
use Rattle.std.specs.Prelude.{◌≡◌, ℕ, true, false, List, map}
use Rattle.printing.specs.Printing.{Written, IsWritten, BreaksOff}
use Rattle.tiles_said.specs.Said.{SaidValue, IsSaid, IsRefusal}
use Rattle.tiles_said.specs.Sources.{file_in}
use Rattle.tiles_said.specs.declared.printed.TilesEnd.{TilesEnd}
use Rattle.tiles_said.specs.declared.printed.TilesEnd.TheVariants.{Fine, Warned, Refused, Unwritten}

-- the text was printed whole, with a warning or without; or a beginning of it, and then a write failed
abbrev pub PrintsSaid : SaidValue → TilesEnd → Written → Written → Type 0
PrintsSaid said Fine old new = (said.told ≡ false) × IsWritten old new said.text
PrintsSaid said Warned old new = (said.told ≡ true) × IsWritten old new said.text
PrintsSaid said (Refused fault) old new = ⊥
PrintsSaid said Unwritten old new = BreaksOff old new said.text

-- how it ends: what is said of the files is printed so, or nothing is printed since a file is refused
abbrev pub EndsSo : List (List ℕ) → List (List ℕ) → TilesEnd → Written → Written → Type 0
EndsSo names texts (Refused fault) old new = IsRefusal texts fault × (new ≡ old)
EndsSo names texts Fine old new = (said : SaidValue) × IsSaid names (map file_in texts) said × PrintsSaid said Fine old new
EndsSo names texts Warned old new = (said : SaidValue) × IsSaid names (map file_in texts) said × PrintsSaid said Warned old new
EndsSo names texts Unwritten old new = (said : SaidValue) × IsSaid names (map file_in texts) said × PrintsSaid said Unwritten old new
