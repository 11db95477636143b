-- A round of a board with its feeds: each stream goes on by up to so many groups (this profile).
use Rattle.std.specs.Prelude.{◌≡◌, ℕ, ◌+◌, ◌≤◌, Bool, true, false, List, length, Option, Some, None, Result, Ok, Err, slice_get}
use Rattle.stream_core.specs.declared.phase.Phase.TheVariants.{Running}
use Rattle.stream_core.specs.declared.step.Step.{Step}
use Rattle.stream_core.specs.Standing.{phase_of}
use Rattle.source_feed.specs.Planned.{FeedValue}
use Rattle.board_laws.specs.declared.step_refusal.StepRefusal.{StepRefusal}
use Rattle.board_laws.specs.Lawful.{standing_of}
use Rattle.board_laws.specs.Meaning.{State, Meaning}
use Rattle.board_laws.specs.Schedule.{IsReply}
use Rattle.apply_core.specs.Ended.{StreamHasEnded}
use Rattle.change_laws.specs.Since.{GoesOnBy, HasMoved}

-- ---- one stream

-- a fact of the feed of stream s, of its state before and of its state after
abbrev pub OfStream : (FeedValue → State → State → Type 0) → List FeedValue → Meaning → Meaning → ℕ → Type 0
OfStream P feeds old new s =
    (feed : FeedValue) (before after : State) → slice_get feeds s ≡ Some feed → slice_get old.streams s ≡ Some before → slice_get new.streams s ≡ Some after → P feed before after

-- all groups of the feed are read and applied
pub record HasAppliedAll (feed : FeedValue) (state : State) : Type 0 where
  pub read : length state.list ≡ length feed.groups
  pub applied : state.applied ≡ length feed.groups

-- so many more groups are applied, and they weren't the feed's last
pub record HasAppliedMost (most : ℕ) (feed : FeedValue) (before after : State) : Type 0 where
  pub applied : after.applied ≡ before.applied + most
  pub more : ¬ HasAppliedAll feed after

-- Stream s was stopped: on a board on the way from the old one to the new one a step by which it goes on was refused, and
-- it stands as that left it.
pub record IsStopped (feeds : List FeedValue) (old new : Meaning) (s : ℕ) (refusal : StepRefusal) : Type 0 where
  pub between : Meaning
  pub came : HasMoved feeds old between
  pub step : Step
  pub onwards : GoesOnBy step
  pub left : Meaning
  pub refused : IsReply feeds between (s, step) (Err refusal) left
  pub went : HasMoved feeds left new
  pub stands : slice_get new.streams s ≡ slice_get left.streams s

-- ---- all streams

-- What a round of so many groups answers of stream s: true where it has applied all groups of its feed; false where it
-- has applied so many, and there are more; or the refusal that stopped it.
abbrev pub IsAnswer : ℕ → List FeedValue → Meaning → Meaning → ℕ → Option (Result Bool StepRefusal) → Type 0
IsAnswer most feeds old new s (Some (Ok true)) = OfStream (λ feed before after. HasAppliedAll feed after) feeds old new s
IsAnswer most feeds old new s (Some (Ok false)) = OfStream (HasAppliedMost most) feeds old new s
IsAnswer most feeds old new s (Some (Err refusal)) = IsStopped feeds old new s refusal
IsAnswer most feeds old new s None = Unit {0}

-- of each stream the answer
pub record AreAnswers (most : ℕ) (feeds : List FeedValue) (old : Meaning) (answers : List (Result Bool StepRefusal)) (new : Meaning) : Type 0 where
  pub count : length answers ≡ length feeds
  pub each : (s : ℕ) → IsAnswer most feeds old new s (slice_get answers s)

-- no stream has applied more than so many groups more
abbrev pub ApplyUpTo : ℕ → Meaning → Meaning → Type 0
ApplyUpTo most old new = (s : ℕ) (before after : State) → slice_get old.streams s ≡ Some before → slice_get new.streams s ≡ Some after → after.applied ≤ before.applied + most

-- ---- of streams that have copied all

-- all tables of each stream are copied
abbrev pub AreRunning : Meaning → Type 0
AreRunning board = (s : ℕ) (state : State) → slice_get board.streams s ≡ Some state → phase_of (standing_of state) ≡ Running

-- a stream that answers so has come to its feed's end; whether one that is refused has isn't said
abbrev pub HasEndedAs : List FeedValue → Meaning → ℕ → Option (Result Bool StepRefusal) → Type 0
HasEndedAs feeds board s (Some (Ok true)) = StreamHasEnded feeds s board
HasEndedAs feeds board s answer = Unit {0}

-- of each stream the answer
pub record HaveEndedAs (answers : List (Result Bool StepRefusal)) (feeds : List FeedValue) (board : Meaning) : Type 0 where
  pub count : length answers ≡ length feeds
  pub each : (s : ℕ) → HasEndedAs feeds board s (slice_get answers s)
