-- What a call that adds text behind text that waits leaves on its writer: the whole text is added, or at a fault,
-- which comes of a write that failed, a beginning of what waited and of the text was written (this profile).
use Rattle.std.specs.Prelude.{◌≡◌, ℕ, List, ◌++◌, Result, Ok, Err}
use Rattle.printing.specs.Printing.{Written, IsAdded, BreaksOff}

-- what a writer took, and what waits to be written behind it
pub record WriterPlace : Type 0 where
  pub written : Written
  pub waiting : List ℕ

abbrev pub at : Written → List ℕ → WriterPlace
at written waiting = record { written = written; waiting = waiting }

-- the whole text is added: a part of what waited and of the text was written, and the rest waits
abbrev pub IsTextPut : WriterPlace → WriterPlace → List ℕ → Type 0
IsTextPut old new text = IsAdded old.written old.waiting new.written new.waiting text

-- a beginning of what waited and of the text was written and nothing else, and then a write failed
pub record IsBegun (old new : WriterPlace) (text : List ℕ) : Type 0 where
  pub begun : BreaksOff old.written new.written (old.waiting ++ text)

-- the whole text is added, or at a fault a beginning of what waited and of the text was written
abbrev pub AddsText : {X E : Type 0} → Result X E → WriterPlace → WriterPlace → List ℕ → Type 0
AddsText (Ok x) old new text = IsTextPut old new text
AddsText (Err fault) old new text = IsBegun old new text

-- a part of the text is added, and this rest of it is left
pub record IsPutUpTo (old new : WriterPlace) (text rest : List ℕ) : Type 0 where
  pub done : List ℕ
  pub parts : text ≡ done ++ rest
  pub put : IsTextPut old new done
