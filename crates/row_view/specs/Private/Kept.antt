-- What a view of a row keeps.
use Rattle.std.specs.Prelude.{◌≡◌, ℕ, ◌^◌, ◌<◌, ◌≤◌, List, length, Ok}
use Rattle.row_view.specs.declared.marks.Mark.{Mark}
use Rattle.row_view.specs.RowFields.{row_lengths, row_values}
use Rattle.row_view.specs.Row.{columns_in, row_of_message}
use Rattle.row_view.specs.Private.Marks.{AreMarks}

-- the bytes are a row
abbrev pub IsGood : List ℕ → Type 0
IsGood message = row_of_message message ≡ Ok (columns_in message)

-- a row, its values, how many columns it has, and where each sixteenth begins
pub record IsKept (message values : List ℕ) (count : ℕ) (marks : List Mark) : Type 0 where
  pub good : IsGood message
  pub values_are : values ≡ row_values message
  pub short : length values ≤ 2 ^ 24
  pub counted : count ≡ length (row_lengths message)
  pub marked : 0 < count → AreMarks message count marks
