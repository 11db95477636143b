-- The rows that a stream has in the target: the kept columns of those that its applied groups left and that
-- pass its filter, the ones at copied keys (Vitess 'Life of a Stream', catch-up).
use Rattle.std.specs.Prelude.{ℕ, Option, Some, None, ◌==◌, slice_get, if◌then◌else◌}
use Rattle.std.specs.Option.{option_and_then}
use Rattle.pk_copy.specs.KeyValue.{KeyValue}
use Rattle.pk_copy.specs.Marks.{is_inside}
use Rattle.source_feed.specs.History.{KeptRow, kept_at}
use Rattle.board_laws.specs.Meaning.{State, Meaning}

-- the row of a stream's cut at a key
abbrev pub cut_of : State → KeyValue → Option KeptRow
cut_of state key = if is_inside state.marks key then kept_at state.plan state.list state.applied key else None

-- the same of stream s of a board; nothing where there is no such stream
abbrev pub cut_in : Meaning → ℕ → KeyValue → Option KeptRow
cut_in board s key = option_and_then (λ state. cut_of state key) (slice_get board.streams s)

-- the row that stands at a key, if it is of stream s
abbrev pub own_row : ℕ → Option (ℕ × KeptRow) → Option KeptRow
own_row s None = None
own_row s (Some there) = if there.0 == s then Some there.1 else None
