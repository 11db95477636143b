-- A board on its round, and what its streams' threads do to it.
use Rattle.std.specs.Prelude.{◌≡◌, ◌≢◌, ◌⊎◌, ℕ, suc, ◌+◌, ◌<◌, ◌≤◌, Bool, true, false, List, length, map, Option, Some, None, Result, Ok, Err, IfSome, slice_get, slice_set}
use Rattle.std.specs.Arc.{arc_value}
use Rattle.pk_copy.specs.KeyOrder.{key_cmp}
use Rattle.pk_copy.specs.KeyValue.{KeyValue}
use Rattle.stream_core.specs.declared.step.Step.{Step}
use Rattle.target_tables.specs.Touches.{last_at}
use Rattle.source_feed.specs.Planned.{FeedValue}
use Rattle.source_feed.specs.Touches.{prepared_at}
use Rattle.board_laws.specs.declared.answer.Answer.{Answer}
use Rattle.board_laws.specs.declared.step_refusal.StepRefusal.{StepRefusal}
use Rattle.board_laws.specs.FedBoards.{Fed, IsFedBoard}
use Rattle.board_laws.specs.Meaning.{State, Meaning}
use Rattle.board_laws.specs.Schedule.{IsReply}
use Rattle.board_laws.specs.Touching.{left_by}
use Rattle.apply_core.specs.Ended.{OthersStay}
use Rattle.change_laws.specs.Since.{HasMoved}
use Rattle.worker_rounds.specs.declared.ready.Ready.{Ready}
use Rattle.worker_rounds.specs.Rounds.{OfStream, HasAppliedAll, IsStopped, ApplyUpTo}

-- ---- a board on its round

-- the board, what stopped each of its streams, if anything did, and how many groups each had applied at first
pub record Gone : Type 0 where
  pub board : Meaning
  pub stopped : List (Option StepRefusal)
  pub first : List ℕ

-- of each stream of a board how many groups are applied
abbrev pub applied_on : Meaning → List ℕ
applied_on board = map (λ (state : State). state.applied) board.streams

-- It has moved from the board that it was, by up to so many groups a stream; and who is stopped was.
pub record IsOnRound (fed : Fed) (most : ℕ) (gone : Gone) : Type 0 where
  pub begun : IsFedBoard fed.feeds fed.board
  pub moved : HasMoved fed.feeds fed.board gone.board
  pub upto : ApplyUpTo most fed.board gone.board
  pub count : length gone.stopped ≡ length fed.feeds
  pub stops : (s : ℕ) (refusal : StepRefusal) → slice_get gone.stopped s ≡ Some (Some refusal) → IsStopped fed.feeds fed.board gone.board s refusal
  pub first : gone.first ≡ applied_on fed.board

-- ---- a step

-- stream s isn't stopped
abbrev pub Runs : Gone → ℕ → Type 0
Runs gone s = slice_get gone.stopped s ≡ Some None

-- a refusal stands at this place
abbrev pub IsStopAt : List (Option StepRefusal) → ℕ → Type 0
IsStopAt stopped s = (refusal : StepRefusal) × (slice_get stopped s ≡ Some (Some refusal))

-- it is
abbrev pub IsStoppedIn : Gone → ℕ → Type 0
IsStoppedIn gone s = IsStopAt gone.stopped s

-- it has applied fewer than so many groups more
abbrev pub MayApply : ℕ → Meaning → Meaning → ℕ → Type 0
MayApply most old board s = (before now : State) → slice_get old.streams s ≡ Some before → slice_get board.streams s ≡ Some now → now.applied < before.applied + most

-- a step of stream s was made, or was refused and stops it
abbrev pub IsStepOn : List FeedValue → ℕ → Step → Bool → Gone → Gone → Type 0
IsStepOn feeds s step true old new = ((answer : Answer) × IsReply feeds old.board (s, step) (Ok answer) new.board) × (new.stopped ≡ old.stopped)
IsStepOn feeds s step false old new = (refusal : StepRefusal) × IsReply feeds old.board (s, step) (Err refusal) new.board × (new.stopped ≡ slice_set old.stopped s (Some refusal))

-- each other stream stands as it stood
pub record AreAsideOf (s : ℕ) (old new : Gone) : Type 0 where
  pub streams : OthersStay s old.board new.board
  pub stopped : (t : ℕ) → t ≢ s → slice_get new.stopped t ≡ slice_get old.stopped t

-- ---- one group after another

-- stream s has applied no group more
abbrev pub AppliesNone : ℕ → Meaning → Meaning → Type 0
AppliesNone s old new = (before after : State) → slice_get old.streams s ≡ Some before → slice_get new.streams s ≡ Some after → after.applied ≡ before.applied

-- stream s has applied one group more
abbrev pub AppliesOne : ℕ → Meaning → Meaning → Type 0
AppliesOne s old new = (before after : State) → slice_get old.streams s ≡ Some before → slice_get new.streams s ≡ Some after → after.applied ≡ suc before.applied

-- so many at least
abbrev pub Gains : ℕ → ℕ → Meaning → Meaning → Type 0
Gains s count old new = (before after : State) → slice_get old.streams s ≡ Some before → slice_get new.streams s ≡ Some after → before.applied + count ≤ after.applied

-- so many more groups are applied, or all
abbrev pub IsFar : ℕ → FeedValue → State → State → Type 0
IsFar most feed before after = (after.applied ≡ before.applied + most) ⊎ HasAppliedAll feed after

-- stream s is stopped, or that far
abbrev pub IsThrough : Fed → ℕ → Gone → ℕ → Type 0
IsThrough fed most gone s = IsStoppedIn gone s ⊎ OfStream (IsFar most) fed.feeds fed.board gone.board s

-- each of the first so many streams is
abbrev pub AreThrough : Fed → ℕ → Gone → ℕ → Type 0
AreThrough fed most gone count = (s : ℕ) → s < count → IsThrough fed most gone s

-- ---- groups that stand ready

-- it is prepared of the feed of stream s, with what it puts under the stream's marks
pub record IsReady (fed : Fed) (s : ℕ) (ready : Ready) : Type 0 where
  pub feed : FeedValue
  pub fed_by : slice_get fed.feeds s ≡ Some feed
  pub prepared : prepared_at feed (arc_value ready.group).number ≡ Ok (arc_value ready.group)
  pub puts : IfSome (slice_get fed.board.streams s) (λ state. (key : KeyValue) → last_at key_cmp ready.puts.changes.items key ≡ left_by state.marks (arc_value ready.group) key)

-- stream s isn't stopped, has applied all that it read, and may read group n and apply it
pub record MayTakeIn (fed : Fed) (most : ℕ) (gone : Gone) (s n : ℕ) : Type 0 where
  pub runs : Runs gone s
  pub state : State
  pub there : slice_get gone.board.streams s ≡ Some state
  pub applied : state.applied ≡ length state.list
  pub number : n ≡ suc (length state.list)
  pub room : MayApply most fed.board gone.board s

-- ---- answers

-- what is answered of a stream by what stopped it, and else by whether it has applied all
abbrev pub AnswersBy : FeedValue → State → Option StepRefusal → Result Bool StepRefusal → Type 0
AnswersBy feed state (Some refusal) answer = answer ≡ Err refusal
AnswersBy feed state None (Ok true) = HasAppliedAll feed state
AnswersBy feed state None (Ok false) = ¬ HasAppliedAll feed state
AnswersBy feed state None (Err refusal) = ⊥

-- of the streams so far the answers
pub record AreAnswersBy (feeds : List FeedValue) (board : Meaning) (stopped : List (Option StepRefusal)) (answers : List (Result Bool StepRefusal)) : Type 0 where
  pub count : length answers ≡ length stopped
  pub each : (s : ℕ) (feed : FeedValue) (state : State) (stop : Option StepRefusal) (answer : Result Bool StepRefusal)
      → slice_get feeds s ≡ Some feed → slice_get board.streams s ≡ Some state → slice_get stopped s ≡ Some stop → slice_get answers s ≡ Some answer → AnswersBy feed state stop answer
