-- What a checkpoint keeps of a board: of each stream its position, how far its tables are copied, and its
-- rows (this profile).
use Rattle.std.specs.Prelude.{ℕ, ◌+◌, ◌==◌, List, [], ◌∷◌, map}
use Rattle.std.specs.List.{filter}
use Rattle.pk_copy.specs.KeyValue.{KeyValue}
use Rattle.pk_copy.specs.Marks.{Marks}
use Rattle.source_feed.specs.GroupValue.{Position}
use Rattle.source_feed.specs.History.{RowValue}
use Rattle.source_feed.specs.Image.{ImageRows}
use Rattle.board_laws.specs.Meaning.{State, TargetRows, Meaning}
use Rattle.board_laws.specs.Sources.{applied_position}

-- what is kept of a stream; rows by rising key
pub record SavedStream : Type 0 where
  pub position : Position
  pub marks : Marks
  pub rows : ImageRows

-- a row of the target without its owner
abbrev pub without_owner : KeyValue × (ℕ × RowValue) → KeyValue × RowValue
without_owner entry = (entry.0, entry.1.1)

-- the rows of stream s, by rising key
abbrev pub own_rows : ℕ → TargetRows → ImageRows
own_rows s rows = map without_owner (filter (λ entry. entry.1.0 == s) rows)

-- what is kept of stream s: what is read beyond the applied groups isn't, nor is an open snapshot
abbrev pub saved_stream : ℕ → State → TargetRows → SavedStream
saved_stream s state rows = record { position = applied_position state; marks = state.marks; rows = own_rows s rows }

-- the same of streams s, s + 1, ..
abbrev pub saved_from : ℕ → List State → TargetRows → List SavedStream
saved_from s [] rows = []
saved_from s (state ∷ later) rows = saved_stream s state rows ∷ saved_from (s + 1) later rows

-- what is kept of a board
abbrev pub saved_of : Meaning → List SavedStream
saved_of board = saved_from 0 board.streams board.rows
