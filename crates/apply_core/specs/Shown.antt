-- What a board shows of its streams and of the rows of its target (this profile).
use Rattle.std.specs.Prelude.{ℕ, ◌==◌}
use Rattle.std.specs.List.{filter}
use Rattle.dump.specs.DumpRowsValue.{DumpRowsValue}
pub use Rattle.dump.specs.DumpRowsValue.{unowned, all_rows}
use Rattle.board_laws.specs.Meaning.{TargetRows}

-- the rows of stream s, by rising key
abbrev pub rows_of_stream : ℕ → TargetRows → DumpRowsValue
rows_of_stream s rows = all_rows (filter (λ entry. entry.1.0 == s) rows)
