-- A chunk that is taken out of a stream's image, before its rows are put into the target.
use Rattle.std.specs.Prelude.{◌≡◌, ℕ, List, Option, Some, ◌-◌, length, slice_get}
use Rattle.std.specs.Option.{option_map}
use Rattle.pk_copy.specs.KeyValue.{KeyValue}
use Rattle.source_feed.specs.Image.{ImageRows}
use Rattle.board_laws.specs.Meaning.{State}
use Rattle.board_laws.specs.Event.{copy_rows}
use Rattle.board_laws.specs.Chunk.{rows_taken, takes_all}
use Rattle.board_laws.specs.Allowed.{IsAllowed}
use Rattle.apply_core.specs.Putting.{DoAsStep}
use Rattle.apply_core.specs.declared.taking.MarkMove.{MarkMove}
use Rattle.apply_core.specs.declared.taking.Chunk.{Chunk}

-- the key of the last row, if there is one
abbrev pub last_key_of : ImageRows → Option KeyValue
last_key_of rows = option_map (λ row. row.0) (slice_get rows (length rows - 1))

-- the mark moves as the state's next chunk of up to c rows says
pub record IsMoveOf (state : State) (c : ℕ) (step : MarkMove) : Type 0 where
  pub copied : step.copied ≡ record { rows = length (rows_taken state c); done = takes_all state c }
  pub last : step.last ≡ last_key_of (rows_taken state c)

-- the state's next chunk of up to c rows
pub record IsTakenChunk (state : State) (c : ℕ) (taken : Chunk) : Type 0 where
  pub puts : DoAsStep state (copy_rows c) taken.puts.items
  pub step : IsMoveOf state c taken.step

-- the next chunk of stream s of these, which may be copied
pub record IsChunkFor (streams : List State) (s : ℕ) (c : ℕ) (taken : Chunk) : Type 0 where
  pub state : State
  pub stream : slice_get streams s ≡ Some state
  pub allowed : IsAllowed state (copy_rows c)
  pub chunk : IsTakenChunk state c taken
