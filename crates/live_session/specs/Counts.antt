-- How many rows each stream has in each table (this profile).
use Rattle.std.specs.Prelude.{◌≡◌, ℕ, ◌+◌, ◌<◌, ◌==◌, ◌&&◌, List, get_or, length, Some, slice_get}
use Rattle.std.specs.List.{filter}
use Rattle.filter_rule.specs.PlanTable.{TableValue}
use Rattle.pk_copy.specs.KeyValue.{KeyValue}
use Rattle.source_feed.specs.History.{KeptRow}
use Rattle.board_laws.specs.Meaning.{TargetRows}
use Rattle.live_json.specs.Answers.{TableCounts}

-- the rows of a stream in a table
abbrev pub rows_of : TargetRows → ℕ → ℕ → TargetRows
rows_of rows t s = filter (λ (entry : KeyValue × (ℕ × KeptRow)). entry.0.table == t && entry.1.0 == s) rows

-- the rows of a table among these are added to the counts of their streams
pub record HaveCounted (rows : TargetRows) (t : ℕ) (old new : List ℕ) : Type 0 where
  pub count : length new ≡ length old
  pub each : (s : ℕ) → s < length old → get_or new s 0 ≡ get_or old s 0 + length (rows_of rows t s)

-- so many of each of these streams
pub record AreCounts (rows : TargetRows) (t streams : ℕ) (counts : List ℕ) : Type 0 where
  pub count : length counts ≡ streams
  pub each : (s n : ℕ) → slice_get counts s ≡ Some n → n ≡ length (rows_of rows t s)

-- the same of each table, by its name
pub record AreAllCounts (rows : TargetRows) (tables : List TableValue) (streams : ℕ) (all : List TableCounts) : Type 0 where
  pub count : length all ≡ length tables
  pub each : (t : ℕ) (table : TableValue) (one : TableCounts) → slice_get tables t ≡ Some table → slice_get all t ≡ Some one → (one.table ≡ table.name) × AreCounts rows t streams one.rows
