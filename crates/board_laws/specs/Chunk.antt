-- A chunk of rows: what a copy of up to c rows takes out of the first table that isn't done (Vitess
-- 'VReplication', the copy phase).
use Rattle.std.specs.Prelude.{ℕ, ◌-◌, Bool, length, take, nat_le, None, slice_get, if◌then◌else◌}
use Rattle.std.specs.List.{filter}
use Rattle.std.specs.Option.{option_map_or}
use Rattle.pk_copy.specs.Marks.{Marks, is_past, moved_to, next_table}
use Rattle.source_feed.specs.Image.{ImageRows}
use Rattle.board_laws.specs.Meaning.{State}
use Rattle.board_laws.specs.KeptRows.{passed_rows}

-- the rows that pass and are still to be copied out of that table: those past its mark, by rising key
abbrev pub rows_left : State → ImageRows
rows_left state = filter (λ row. is_past state.marks row.0) (passed_rows state.list state.applied)

-- the first c of them
abbrev pub rows_taken : State → ℕ → ImageRows
rows_taken state c = take c (rows_left state)

-- no row is left behind the first c
abbrev pub takes_all : State → ℕ → Bool
takes_all state c = nat_le (length (rows_left state)) c

-- the mark moves to the last row of a chunk, and stays where the chunk is empty
abbrev pub marks_behind : ImageRows → Marks → Marks
marks_behind rows marks = option_map_or (λ row. moved_to row.0 marks) (slice_get rows (length rows - 1)) marks

-- where no row is left behind the chunk, the table is done and the snapshot closes; else the mark moves on
abbrev pub copied_state : State → ℕ → State
copied_state state c =
    if takes_all state c
    then record state { marks = next_table state.marks; snapshot = None }
    else record state { marks = marks_behind (rows_taken state c) state.marks }
