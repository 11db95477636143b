-- How far a text is written.
use Rattle.std.specs.Prelude.{◌≡◌, ℕ, List, ◌++◌}
use Rattle.printing.specs.Printing.{Written, IsWritten, IsAdded}

-- a part of the text was written, and this rest of it is left
pub record IsWrittenTo (old new : Written) (text rest : List ℕ) : Type 0 where
  pub printed : List ℕ
  pub parts : text ≡ printed ++ rest
  pub written : IsWritten old new printed

-- a part of the text was added behind what waited, and this rest of it is left
pub record IsAddedTo (old : Written) (waited : List ℕ) (new : Written) (waits text rest : List ℕ) : Type 0 where
  pub done : List ℕ
  pub parts : text ≡ done ++ rest
  pub added : IsAdded old waited new waits done
