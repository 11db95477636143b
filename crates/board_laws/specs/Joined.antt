-- The join of two boards: of each stream the state that is further on, and the rows of these states (this profile).
use Rattle.std.specs.Prelude.{ℕ, ◌+◌, List, [], ◌∷◌}
use Rattle.std.specs.List.{filter}
use Rattle.std.specs.Ordering.{match_ordering}
use Rattle.pk_copy.specs.KeyOrder.{key_cmp}
use Rattle.pk_copy.specs.KeyValue.{KeyValue}
use Rattle.pk_copy.specs.Marks.{is_inside}
use Rattle.source_feed.specs.History.{RowValue}
use Rattle.source_feed.specs.Image.{ImageRows}
use Rattle.board_laws.specs.Meaning.{State, TargetRows, Meaning}
use Rattle.board_laws.specs.KeptRows.{kept_rows}
use Rattle.board_laws.specs.Chosen.{all_chosen}

-- the rows of a stream's cut, by rising key
abbrev pub cut_rows : State → ImageRows
cut_rows state = filter (λ row. is_inside state.marks row.0) (kept_rows state.plan state.list state.applied)

-- one row more at its place by key; where a row stands at the key, that one stays
abbrev pub with_row : KeyValue × (ℕ × RowValue) → TargetRows → TargetRows
with_row row [] = row ∷ []
with_row row (first ∷ later) = match_ordering (key_cmp row.0 first.0) (row ∷ first ∷ later) (first ∷ later) (first ∷ with_row row later)

-- rows of stream s more
abbrev pub with_rows : ℕ → ImageRows → TargetRows → TargetRows
with_rows s [] there = there
with_rows s (row ∷ rows) there = with_rows s rows (with_row (row.0, (s, row.1)) there)

-- the rows of the cuts of streams s, s + 1, ..
abbrev pub rows_from : ℕ → List State → TargetRows
rows_from s [] = []
rows_from s (state ∷ later) = with_rows s (cut_rows state) (rows_from (s + 1) later)

-- these states with the rows of their cuts
abbrev pub board_of : List State → Meaning
board_of states = record { streams = states; rows = rows_from 0 states }

-- the join of two boards
abbrev pub joined : Meaning → Meaning → Meaning
joined a b = board_of (all_chosen a.streams b.streams)
