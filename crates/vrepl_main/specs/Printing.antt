-- What a call that tries to print a text leaves on its writer, and a number in such a text (this profile).
use Rattle.std.specs.Prelude.{◌⊎◌, ℕ, List, ◌++◌, decimal}
use Rattle.printing.specs.Printing.{Written, IsWritten, BreaksOff}

-- the whole text was printed, or a beginning of it and then a write failed
abbrev pub PrintsOrBreaks : Written → Written → List ℕ → Type 0
PrintsOrBreaks old new text = IsWritten old new text ⊎ BreaksOff old new text

-- a number behind a word
abbrev pub named_number : List ℕ → ℕ → List ℕ
named_number word number = word ++ decimal number
