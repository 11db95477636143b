-- What dumps say that C gives (this profile).
use Rattle.std.specs.Prelude.{◌≡◌, ◌⊎◌, ℕ, ◌++◌, Bool, true, false, List, length, Some}
use Rattle.std.specs.List.{flat_map}
use Rattle.filter_rule.specs.PlanTable.{TableValue, name_of_table}
use Rattle.filter_rule.specs.PlanValue.{PlanValue}
use Rattle.pk_copy.specs.KeyValue.{KeyValue}
use Rattle.dump.specs.DumpReading.{IsDump, IsFirstBad}
use Rattle.dump.specs.DumpRowsValue.{RowValue, DumpRowsValue}
use Rattle.vdiff.specs.Report.{report_of}
use Rattle.vdiff.specs.declared.report.Report.{Report}
use Rattle.vdiff.specs.Differences.{AreFirstDifferences, Difference}
use Rattle.vrepl_c.specs.Encoded.{bytes_behind, key_bytes, row_bytes}
use Rattle.vrepl_c.specs.Room.{IsPut}

-- ---- bytes that are walked over

-- a row of a table: the table's name, the key, and the row
abbrev pub entry_bytes : List TableValue → KeyValue × RowValue → List ℕ
entry_bytes tables entry = bytes_behind (name_of_table tables entry.0.table) ++ (key_bytes entry.0 ++ row_bytes (Some entry.1))

abbrev pub entries_bytes : List TableValue → DumpRowsValue → List ℕ
entries_bytes tables rows = flat_map (entry_bytes tables) rows

-- a key at which two dumps differ: the table's name, the key, the row of the source and that of the target
abbrev pub difference_bytes : List TableValue → Difference → List ℕ
difference_bytes tables one = bytes_behind (name_of_table tables one.key.table) ++ (key_bytes one.key ++ (row_bytes one.source ++ row_bytes one.target))

abbrev pub differences_bytes : List TableValue → List Difference → List ℕ
differences_bytes tables differences = flat_map (difference_bytes tables) differences

-- ---- a dump

-- a text is the dump of so many rows, and these are their bytes
pub record IsReadAs (plan : PlanValue) (text : List ℕ) (count : ℕ) (bytes : List ℕ) : Type 0 where
  pub rows : DumpRowsValue
  pub is_dump : IsDump plan rows text
  pub is_count : count ≡ length rows
  pub are_bytes : bytes ≡ entries_bytes plan.tables rows

-- a dump was read and its rows put into the room, or this is the first line that can't stand
abbrev pub ReadsDump : PlanValue → List ℕ → ℕ → ℕ → ℕ → List ℕ → List ℕ → ℕ → Type 0
ReadsDump plan text number count line old new said =
    ((number ≡ 0) × (bytes : List ℕ) × IsReadAs plan text count bytes × IsPut bytes old new said) ⊎ ((number ≡ 121) × IsFirstBad plan text line)

-- ---- two dumps

-- two texts are dumps of rows of which there are so many of each kind, and these are the bytes of the first differences
pub record AreCompared (plan : PlanValue) (source target : List ℕ) (most : ℕ) (report : Report) (bytes : List ℕ) : Type 0 where
  pub source_rows : DumpRowsValue
  pub target_rows : DumpRowsValue
  pub source_read : IsDump plan source_rows source
  pub target_read : IsDump plan target_rows target
  pub counts : report ≡ report_of source_rows target_rows
  pub found : List Difference
  pub are_first : AreFirstDifferences most source_rows target_rows found
  pub are_bytes : bytes ≡ differences_bytes plan.tables found

-- this is the first line that can't stand, in the source's text or, behind a dump of the source, in the target's
abbrev pub IsBadLine : PlanValue → List ℕ → List ℕ → ℕ → Bool → Type 0
IsBadLine plan source target line false = IsFirstBad plan source line
IsBadLine plan source target line true = (rows : DumpRowsValue) × IsDump plan rows source × IsFirstBad plan target line
