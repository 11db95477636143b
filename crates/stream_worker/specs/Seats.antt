-- What a call of a seat does: one step on the board, made while the seat holds it (this profile).
use Rattle.std.specs.Prelude.{◌≡◌, ℕ, ◌-◌, List, [], Option, Result, Some, IsSome, slice_get}
use Rattle.std.specs.Option.{option_and_then}
use Rattle.pk_copy.specs.KeyValue.{KeyValue}
use Rattle.board_laws.specs.declared.answer.Answer.{Answer}
use Rattle.board_laws.specs.declared.refusal.Refusal.{Refusal}
use Rattle.source_feed.specs.History.{RowValue}
use Rattle.source_feed.specs.Touches.{PreparedValue}
use Rattle.board_laws.specs.Meaning.{State, TargetRows}
use Rattle.board_laws.specs.Cut.{cut_of}
use Rattle.board_laws.specs.Lawful.{IsLawful}
use Rattle.board_laws.specs.Event.{Event}
use Rattle.board_laws.specs.Step.{IsStep}
use Rattle.stream_worker.specs.Knowing.{Laid, Knows}
use Rattle.stream_worker.specs.Rule.{SaysOfBoard}

-- The step of an event on stream s of a lawful board with these streams, and with the rows that such a board has; as
-- many seats are given out as before.
pub record IsBoardStep (taken : Laid) (s : ℕ) (event : Event) (result : Result Answer Refusal) (left : Laid) : Type 0 where
  pub rows : TargetRows
  pub rows_left : TargetRows
  pub lawful : IsLawful (record { streams = taken.board; rows = rows })
  pub step : IsStep (record { streams = taken.board; rows = rows }) s event result (record { streams = left.board; rows = rows_left })
  pub given : left.given ≡ taken.given

-- A call of the seat of stream s. It takes the board, of which all is so that the seat knew, so that its own stream is
-- as it was, makes the step, and puts the board back, which it then knows.
pub record IsSeatStep (before : Knows) (s : ℕ) (event : Event) (result : Result Answer Refusal) (after : Knows) : Type 0 where
  pub taken : Laid
  pub left : Laid
  pub says : SaysOfBoard before taken
  pub step : IsBoardStep taken s event result left
  pub seen : after.seen ≡ Some left

-- a receipt of stream s: its number is that of the group that was applied last, and its group is that one
pub record IsReceiptOf (s : ℕ) (state : State) (named told : ℕ) (shown : PreparedValue) : Type 0 where
  pub stream : named ≡ s
  pub number : told ≡ state.applied
  pub group : slice_get state.list (told - 1) ≡ Some shown

-- the row that the cut of stream s of a board has at a key
abbrev pub own_cut : List State → ℕ → KeyValue → Option RowValue
own_cut board s key = option_and_then (λ state. cut_of state key) (slice_get board s)

-- the opener's pass, once it has put the board in: it has no stream, and saw a board
pub record IsOpener (v : Knows) : Type 0 where
  pub streams : v.streams ≡ []
  pub seen : IsSome v.seen
