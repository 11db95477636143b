-- Which texts are dumps of a plan's tables, and which line is the first that can't stand in a text that is none
-- (this profile).
use Rattle.std.specs.Prelude.{◌≡◌, ◌≢◌, ℕ, ◌+◌, ◌<◌, ◌≤◌, ◌⊎◌, List, [], ◌∷◌, ◌++◌, length, IfSome, Result, Ok, Err}
use Rattle.std.specs.List.{AllByRecursion, flat_map}
use Rattle.filter_rule.specs.PlanValue.{PlanValue, kept_columns_of, table_name}
use Rattle.pk_copy.specs.KeyOfKept.{key_of_kept}
use Rattle.pk_copy.specs.KeyOrder.{key_cmp}
use Rattle.pk_copy.specs.KeyValue.{KeyValue}
use Rattle.row_view.specs.WrittenRow.{IsWithinLimits}
use Rattle.target_tables.specs.Rising.{IsRising, AreBelow}
use Rattle.dump.specs.Dump.{dump_of, row_line, table_line}
use Rattle.dump.specs.DumpRowsValue.{RowValue, DumpRowsValue}

-- each value is of bytes
abbrev pub AreByteValues : RowValue → Type 0
AreByteValues row = AllByRecursion (λ column. IfSome column (AllByRecursion (λ byte. byte < 256))) row

-- a row that a dump of the plan's tables can have: of the kept columns of one of them, at the key that these
-- give, and within the limits of a row
pub record FitsPlan (plan : PlanValue) (row : KeyValue × RowValue) : Type 0 where
  pub table : row.0.table < length plan.tables
  pub width : length row.1 ≡ length (kept_columns_of plan row.0.table)
  pub key : key_of_kept plan row.0.table row.1 ≡ Ok row.0
  pub limits : IsWithinLimits row.1
  pub bytes : AreByteValues row.1

-- rows that a dump can have: by rising key, and each fits
pub record AreRowsOf (plan : PlanValue) (rows : DumpRowsValue) : Type 0 where
  pub rising : IsRising key_cmp rows
  pub each_row : AllByRecursion (FitsPlan plan) rows

-- the text is the dump of these rows
pub record IsDump (plan : PlanValue) (rows : DumpRowsValue) (text : List ℕ) : Type 0 where
  pub rows_of_plan : AreRowsOf plan rows
  pub is_text : text ≡ dump_of plan rows

-- ---- line by line

-- what stands behind some lines: how many tables have begun, and the rows so far
pub record Behind : Type 0 where
  pub begun : ℕ
  pub rows : DumpRowsValue

-- the line of the next table's name
pub record BeginsTable (plan : PlanValue) (old new : Behind) (line : List ℕ) : Type 0 where
  pub more : old.begun < length plan.tables
  pub is_line : line ≡ table_line (table_name plan old.begun)
  pub is_new : new ≡ record { begun = old.begun + 1; rows = old.rows }

-- the line of a row of the table that began last, at a greater key than those so far
pub record AddsRow (plan : PlanValue) (old new : Behind) (line : List ℕ) : Type 0 where
  pub row : KeyValue × RowValue
  pub fits : FitsPlan plan row
  pub begun_last : row.0.table + 1 ≡ old.begun
  pub above : AreBelow key_cmp row.0 old.rows
  pub is_line : line ≡ row_line row.1
  pub is_new : new ≡ record { begun = old.begun; rows = old.rows ++ row ∷ [] }

-- a line, with its end, can stand there
abbrev pub CanStand : PlanValue → Behind → Behind → List ℕ → Type 0
CanStand plan old new line = BeginsTable plan old new line ⊎ AddsRow plan old new line

-- lines that can stand one behind the other
abbrev pub Stand : PlanValue → Behind → List (List ℕ) → Behind → Type 0
Stand plan old [] new = old ≡ new
Stand plan old (line ∷ lines) new = (now : Behind) × CanStand plan old now line × Stand plan now lines new

-- no line that can stand there is in front
abbrev pub NoLineStands : PlanValue → Behind → List ℕ → Type 0
NoLineStands plan now rest = (line others : List ℕ) (new : Behind) → rest ≡ line ++ others → CanStand plan now new line → ⊥

abbrev pub joined_lines : List (List ℕ) → List ℕ
joined_lines lines = flat_map (λ line. line) lines

-- where no line stands yet
abbrev pub at_front : Behind
at_front = record { begun = 0; rows = [] }

-- behind n - 1 lines that can stand there, up to this rest, no further line can; the rest isn't the end of a
-- dump, so line n, counted from 1, can't stand there or is missing
pub record IsFirstBad (plan : PlanValue) (text : List ℕ) (n : ℕ) : Type 0 where
  pub lines : List (List ℕ)
  pub now : Behind
  pub rest : List ℕ
  pub parts : text ≡ joined_lines lines ++ rest
  pub stand : Stand plan at_front lines now
  pub stops : NoLineStands plan now rest
  pub unfinished : (rest ≡ []) × (now.begun ≡ length plan.tables) → ⊥
  pub number : n ≡ length lines + 1

-- a text begins as a row's line does: with the `N` of NULL, or the `x` of a value
abbrev pub BeginsAsRow : List ℕ → Type 0
BeginsAsRow [] = ⊥
BeginsAsRow (first ∷ rest) = (first ≡ 78) ⊎ (first ≡ 120)

-- lines that can stand are in front, a table has begun, and what stands behind them begins as a row's line
pub record MayHaveRow (plan : PlanValue) (text : List ℕ) : Type 0 where
  pub lines : List (List ℕ)
  pub now : Behind
  pub rest : List ℕ
  pub parts : text ≡ joined_lines lines ++ rest
  pub stand : Stand plan at_front lines now
  pub begun : 1 ≤ now.begun
  pub row : BeginsAsRow rest

-- ---- what a text is read as

-- the rows of a dump, or the number of the first line that can't stand
abbrev pub IsDumpReading : PlanValue → List ℕ → Result DumpRowsValue ℕ → Type 0
IsDumpReading plan text (Ok rows) = IsDump plan rows text
IsDumpReading plan text (Err line) = IsFirstBad plan text line

-- under a plan each text is read as one thing alone: a dump determines its rows, and no dump has a line that can't stand
abbrev pub AreReadOnce : Type 0
AreReadOnce = (plan : PlanValue) (text : List ℕ) (one other : Result DumpRowsValue ℕ) → IsDumpReading plan text one → IsDumpReading plan text other → one ≡ other
