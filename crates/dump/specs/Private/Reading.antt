-- What is read off the front of a text.
use Rattle.std.specs.Prelude.{◌≡◌, ℕ, ◌≤◌, length, ◌+◌, ◌-◌, ◌*◌, ◌&&◌, ◌==◌, nat_le, zero, suc, if◌then◌else◌, List, [], ◌∷◌, ◌++◌, Option, Some, None, Ok}
use Rattle.std.specs.Option.{option_map, option_and_then}
use Rattle.filter_rule.specs.PlanValue.{PlanValue}
use Rattle.row_view.specs.Row.{row_of_message}
use Rattle.row_view.specs.WrittenRow.{IsWithinLimits}
use Rattle.dump.specs.Dump.{row_line}
use Rattle.dump.specs.DumpReading.{AddsRow, AreByteValues, Behind, CanStand, Stand, at_front, joined_lines}
use Rattle.dump.specs.DumpRowsValue.{RowValue}

-- the value of a digit in lower case
abbrev pub digit_of : ℕ → Option ℕ
digit_of c =
    if nat_le 48 c && nat_le c 57 then Some (c - 48)
    else if nat_le 97 c && nat_le c 102 then Some (c - 87)
    else None

-- a pair of digits before what they stand before: its byte in front of the others
abbrev pub with_pair : Option ℕ → Option ℕ → List ℕ × List ℕ → List ℕ × List ℕ → List ℕ × List ℕ
with_pair (Some high) (Some low) others stop = ((high * 16 + low) ∷ others.0, others.1)
with_pair _ _ others stop = stop

-- the bytes that pairs of digits in front spell, and what stands behind them
unfoldable pub bytes_front : List ℕ → List ℕ × List ℕ
bytes_front [] = ([], [])
bytes_front (last ∷ []) = ([], last ∷ [])
bytes_front (high ∷ low ∷ rest) = with_pair (digit_of high) (digit_of low) (bytes_front rest) ([], high ∷ low ∷ rest)

-- bytes in front of those that are spelled
abbrev pub with_bytes : List ℕ → List ℕ × List ℕ → List ℕ × List ℕ
with_bytes bytes front = (bytes ++ front.0, front.1)

-- the byte that a pair of digits spells
abbrev pub pair_of : Option ℕ → Option ℕ → Option ℕ
pair_of high low = option_and_then (λ h. option_map (λ l. h * 16 + l) low) high

-- the byte of a pair of digits in front, and what stands behind them
abbrev pub pair_front : List ℕ → Option (ℕ × List ℕ)
pair_front [] = None
pair_front (last ∷ []) = None
pair_front (high ∷ low ∷ rest) = option_and_then (λ h. option_map (λ l. (h * 16 + l, rest)) (digit_of low)) (digit_of high)

-- the column of a cell in front, and what stands behind it
abbrev pub cell_front : List ℕ → Option (Option (List ℕ) × List ℕ)
cell_front [] = None
cell_front (first ∷ rest) =
    if first == 78 then Some (None, rest)
    else if first == 120 then Some (Some (bytes_front rest).0, (bytes_front rest).1)
    else None

-- what stands behind a byte in front
abbrev pub behind_byte : ℕ → List ℕ → Option (List ℕ)
behind_byte byte [] = None
behind_byte byte (first ∷ rest) = if first == byte then Some rest else None

-- a column in front of those behind it
abbrev pub with_column : Option (List ℕ) → Option (RowValue × List ℕ) → Option (RowValue × List ℕ)
with_column column None = None
with_column column (Some others) = Some (column ∷ others.0, others.1)

-- the columns of so many cells, each behind a tab
abbrev pub cells_front : ℕ → List ℕ → Option (RowValue × List ℕ)
cells_front zero text = Some ([], text)
cells_front (suc count) text =
    option_and_then (λ rest. option_and_then (λ first. with_column first.0 (cells_front count first.1)) (cell_front rest)) (behind_byte 9 text)

-- the columns of a row's line, of a cell and so many more
abbrev pub row_front : ℕ → List ℕ → Option (RowValue × List ℕ)
row_front count text =
    option_and_then (λ first. option_and_then (λ others. option_map (λ rest. (first.0 ∷ others.0, rest)) (behind_byte 10 others.1)) (cells_front count first.1)) (cell_front text)

-- a cell was taken off the front and its column pushed
pub record TakesCell (old new : RowValue) (text rest : List ℕ) : Type 0 where
  pub column : Option (List ℕ)
  pub front : cell_front text ≡ Some (column, rest)
  pub pushed : new ≡ old ++ column ∷ []

-- cells were, each with the tab before it
pub record TakesCells (count : ℕ) (old new : RowValue) (text rest : List ℕ) : Type 0 where
  pub columns : RowValue
  pub front : cells_front count text ≡ Some (columns, rest)
  pub pushed : new ≡ old ++ columns

-- columns in front of those behind them
abbrev pub with_columns : RowValue → Option (RowValue × List ℕ) → Option (RowValue × List ℕ)
with_columns columns others = option_map (λ p. (columns ++ p.0, p.1)) others

-- some of so many cells were taken off the front, and so many are left
pub record TakesSoFar (count left : ℕ) (old new : RowValue) (text rest : List ℕ) : Type 0 where
  pub columns : RowValue
  pub front : cells_front count text ≡ with_columns columns (cells_front left rest)
  pub pushed : new ≡ old ++ columns

-- the row's line, of so many columns, is in front
abbrev pub IsRowLine : ℕ → List ℕ → RowValue × List ℕ → Type 0
IsRowLine width text p = (text ≡ row_line p.0 ++ p.1) × (length p.0 ≡ width) × AreByteValues p.0

-- a row's line was taken off the front
pub record TakesRow (width : ℕ) (row : RowValue) (text rest : List ℕ) : Type 0 where
  pub parts : text ≡ row_line row ++ rest
  pub width_is : length row ≡ width
  pub bytes : AreByteValues row
  pub limits : IsWithinLimits row

-- one was, and the message is the row's
abbrev pub TakesMessage : ℕ → List ℕ → List ℕ → List ℕ → Type 0
TakesMessage width message text rest = (row : RowValue) × (row_of_message message ≡ Ok row) × TakesRow width row text rest

-- no line of a row is in front
abbrev pub NoRowIn : ℕ → List ℕ → Type 0
NoRowIn width text = (row : RowValue) (rest : List ℕ) → length row ≡ width → AreByteValues row → IsWithinLimits row → text ≡ row_line row ++ rest → ⊥

-- a line was taken off the front
pub record TakesLine (plan : PlanValue) (old new : Behind) (text rest : List ℕ) : Type 0 where
  pub line : List ℕ
  pub parts : text ≡ line ++ rest
  pub can : CanStand plan old new line

-- the lines up to the rest can stand one behind the other; line is the number of the next one
pub record IsReadSoFar (plan : PlanValue) (text : List ℕ) (now : Behind) (rest : List ℕ) (line : ℕ) : Type 0 where
  pub lines : List (List ℕ)
  pub parts : text ≡ joined_lines lines ++ rest
  pub stand : Stand plan at_front lines now
  pub number : line ≡ length lines + 1
  pub bound : line + length rest ≤ length text + 1

-- a row's line was
pub record TakesRowLine (plan : PlanValue) (old new : Behind) (text rest : List ℕ) : Type 0 where
  pub line : List ℕ
  pub parts : text ≡ line ++ rest
  pub adds : AddsRow plan old new line

-- no line of a row that can stand there is in front
abbrev pub NoRowStands : PlanValue → Behind → List ℕ → Type 0
NoRowStands plan old text = (line rest : List ℕ) (new : Behind) → text ≡ line ++ rest → AddsRow plan old new line → ⊥
