-- A step on the streams alone, the rows of the target aside.
use Rattle.std.specs.Prelude.{◌≡◌, ℕ, List, Some, Option, Result, Ok, Err, IfSome, slice_get, slice_set}
use Rattle.stream_core.specs.declared.step.Move.{Move}
use Rattle.stream_core.specs.declared.step.Step.{Step}
use Rattle.stream_core.specs.declared.step.Step.TheVariants.{Offer}
use Rattle.stream_core.specs.Standing.{Standing}
use Rattle.stream_core.specs.StepTable.{row_of}
use Rattle.pk_copy.specs.KeyOrder.{key_cmp}
use Rattle.pk_copy.specs.KeyValue.{KeyValue}
use Rattle.target_tables.specs.Touches.{last_at}
use Rattle.source_feed.specs.History.{RowValue}
use Rattle.source_feed.specs.Touches.{PreparedValue}
use Rattle.board_laws.specs.declared.answer.Answer.{Answer}
use Rattle.board_laws.specs.declared.answer.Answer.TheVariants as answers
use Rattle.board_laws.specs.declared.answer.Offered.{Offered}
use Rattle.board_laws.specs.declared.refusal.Refusal.{Refusal}
use Rattle.board_laws.specs.Meaning.{State, TargetRows, Meaning}
use Rattle.board_laws.specs.Lawful.{standing_of}
use Rattle.board_laws.specs.Event.{Event, offer}
use Rattle.board_laws.specs.StateAfter.{answer_to, state_after}
use Rattle.board_laws.specs.Touching.{touch_of}
use Rattle.board_laws.specs.Allowed.{IsAllowed}
use Rattle.board_laws.specs.Step.{IsRefusedFor, IsRefusedOn}

-- nothing in the stream's own state is against the step
pub record MayMake (streams : List State) (s : ℕ) (event : Event) : Type 0 where
  pub state : State
  pub stream : slice_get streams s ≡ Some state
  pub allowed : IsAllowed state event

-- nothing in the stream's own state is against the step, and these changes are what the step does at every key
pub record ArePutsOf (streams : List State) (s : ℕ) (event : Event) (puts : List (KeyValue × Option RowValue)) : Type 0 where
  pub may : MayMake streams s event
  pub left : IfSome (slice_get streams s) (λ state. (key : KeyValue) → last_at key_cmp puts key ≡ touch_of state event key)

-- the step is refused whatever rows there are
abbrev pub IsRefusedAlone : List State → ℕ → Event → Refusal → Type 0
IsRefusedAlone streams s event refusal = (rows : TargetRows) → IsRefusedOn (record { streams = streams; rows = rows }) s event refusal

-- the stream's state is the one behind the step
pub record MakesStep (old : List State) (s : ℕ) (event : Event) (answer : Answer) (new : List State) : Type 0 where
  pub may : MayMake old s event
  pub answered : answer ≡ answer_to may.state event
  pub streams : new ≡ slice_set old s (state_after may.state event)

-- the step of an event on the streams; a refused one leaves them as they were
abbrev pub IsStreamStep : List State → ℕ → Event → Result Answer Refusal → List State → Type 0
IsStreamStep old s event (Ok answer) new = MakesStep old s event answer new
IsStreamStep old s event (Err refusal) new = IsRefusedAlone old s event refusal × (new ≡ old)

-- the stream's own state refuses the step, on whatever board
abbrev pub RefusesByItself : State → Event → Refusal → Type 0
RefusesByItself state event refusal = (board : Meaning) (s : ℕ) → IsRefusedFor board s state event refusal

-- what the step table makes of the step on the stream, if there is one
abbrev pub IsMoveFor : List State → ℕ → Step → Move → Type 0
IsMoveFor streams s step made = IfSome (slice_get streams s) (λ state. made ≡ (row_of (standing_of state) step).otherwise)

-- the stream's own state allows the step, and is then the one behind it
pub record TakesStep (old : State) (event : Event) (answer : Answer) (new : State) : Type 0 where
  pub allowed : IsAllowed old event
  pub answered : answer ≡ answer_to old event
  pub left : new ≡ state_after old event

-- the step of an event on the one stream; a refused one leaves it as it was
abbrev pub IsOwnStep : State → Event → Result Answer Refusal → State → Type 0
IsOwnStep old event (Ok answer) new = TakesStep old event answer new
IsOwnStep old event (Err refusal) new = RefusesByItself old event refusal × (new ≡ old)

-- an offer that the stream's own state allows: what it answers, and where the stream then stands
pub record TakesOffer (state : State) (group : PreparedValue) (offered : Offered) (cursor : Standing) : Type 0 where
  pub allowed : IsAllowed state (offer group)
  pub answered : answers.Offered offered ≡ answer_to state (offer group)
  pub stands : cursor ≡ (row_of (standing_of state) (Offer group.number)).otherwise.cursor
