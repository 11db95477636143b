-- Rows whose lines are known as text, and what is taken off the front by them.
use denote.Ref.{Bor}
use Rattle.std.specs.Prelude.{◌≡◌, ℕ, ◌+◌, ◌<◌, List, [], ◌∷◌, ◌++◌, length, map, slice_get, Some}
use Rattle.pk_copy.specs.KeyOrder.{key_cmp}
use Rattle.pk_copy.specs.KeyValue.{KeyValue}
use Rattle.target_tables.specs.Rising.{AreBelow}
use Rattle.dump.specs.Dump.{row_line}
use Rattle.dump.specs.DumpReading.{Behind}
use Rattle.dump.specs.DumpRowsValue.{RowValue, DumpRowsValue}

-- lent texts
abbrev pub texts_of : List (Bor (List ℕ)) → List (List ℕ)
texts_of lines = map (λ line. line.now) lines

-- the lines of the first of these rows, in order
pub record AreLinesOf (lines : List (List ℕ)) (rows : DumpRowsValue) : Type 0 where
  pub front : DumpRowsValue
  pub others : DumpRowsValue
  pub parts : rows ≡ front ++ others
  pub lines_are : lines ≡ map (λ row. row_line row.1) front

-- the line of the row that was added to so many was kept, behind those of all of these
pub record KeepsLine (count now : ℕ) (old new : List (List ℕ)) (line : List ℕ) : Type 0 where
  pub all : length old ≡ count
  pub added : count < now
  pub kept : new ≡ old ++ line ∷ []

-- the line of one of the known rows is in front, before this rest: of the table that began last, at a greater key
-- than those so far
pub record StandsKnown (known : DumpRowsValue) (old : Behind) (text : List ℕ) (row : KeyValue × RowValue) (rest : List ℕ) : Type 0 where
  pub place : ℕ
  pub stands : slice_get known place ≡ Some row
  pub begun_last : row.0.table + 1 ≡ old.begun
  pub above : AreBelow key_cmp row.0 old.rows
  pub parts : text ≡ row_line row.1 ++ rest
