-- What a seat sees of the board again, and steps of its stream along a feed, one after another (this profile).
use Rattle.std.specs.Prelude.{◌≡◌, ℕ, List, [], ◌∷◌, Some, Ok, slice_get}
use Rattle.stream_core.specs.declared.step.Step.{Step}
use Rattle.source_feed.specs.Planned.{FeedValue}
use Rattle.board_laws.specs.declared.answer.Answer.{Answer}
use Rattle.board_laws.specs.Event.{Event}
use Rattle.board_laws.specs.Meaning.{State}
use Rattle.board_laws.specs.Runs.{event_of_step, taken}
use Rattle.stream_worker.specs.declared.seat.Seat.{Seat}
use Rattle.stream_worker.specs.Knowing.{Laid}
use Rattle.stream_worker.specs.Rule.{BoardGoesOn}
use Rattle.stream_worker.specs.SeatOf.{known}
use Rattle.stream_worker.specs.Seats.{IsBoardStep}

-- ---- boards, one after another

-- the seat of stream s sees the board again, with any calls of other seats between: its own stream is as it was, every
-- other goes on, and there are as many
pub record IsSeenAgain (s : ℕ) (seen now : Laid) : Type 0 where
  pub own : slice_get now.board s ≡ slice_get seen.board s
  pub on : BoardGoesOn seen.board now.board

-- a step of stream s is made on such a board; an offer is of the feed's group of its number
pub record IsMadeStep (feed : FeedValue) (s : ℕ) (step : Step) (seen left : Laid) : Type 0 where
  pub event : Event
  pub of_step : event_of_step feed step ≡ Some event
  pub answer : Answer
  pub taken : Laid
  pub again : IsSeenAgain s seen taken
  pub made : IsBoardStep taken s event (Ok answer) left

-- steps of stream s are made, one after another
abbrev pub AreMadeSteps : FeedValue → ℕ → List Step → Laid → Laid → Type 0
AreMadeSteps feed s [] seen last = IsSeenAgain s seen last
AreMadeSteps feed s (step ∷ later) seen last = (left : Laid) × IsMadeStep feed s step seen left × AreMadeSteps feed s later left last

-- ---- a seat

-- a fact of the board that a seat saw before, and the one that it saw later
abbrev pub OfBoards : (Laid → Laid → Type 0) → Seat → Seat → Type 0
OfBoards P before after = (seen last : Laid) → (known before).seen ≡ Some seen → (known after).seen ≡ Some last → P seen last

-- the seat looked at the board again, or didn't
abbrev pub SeesAgain : Seat → Seat → Type 0
SeesAgain before after = OfBoards (IsSeenAgain before.stream) before after

-- every stream goes on from what the seat saw of it before: all that was applied stays
abbrev pub AllStay : Seat → Seat → Type 0
AllStay before after = OfBoards (λ seen last. BoardGoesOn seen.board last.board) before after

-- what a seat did to its stream along a feed are these steps, each made, one after another
pub record HasStepped (feed : FeedValue) (before after : Seat) : Type 0 where
  pub steps : List Step
  pub made : OfBoards (AreMadeSteps feed before.stream steps) before after

-- ---- laws

-- behind steps that are made every stream goes on
abbrev pub MadeStepsGoOn : Type 0
MadeStepsGoOn = (feed : FeedValue) (s : ℕ) (steps : List Step) (seen last : Laid) → AreMadeSteps feed s steps seen last → BoardGoesOn seen.board last.board

-- and their own stream is as they leave it by themselves
abbrev pub MadeStepsLeaveTheirs : Type 0
MadeStepsLeaveTheirs = (feed : FeedValue) (s : ℕ) (steps : List Step) (seen last : Laid) (state : State) → AreMadeSteps feed s steps seen last → slice_get seen.board s ≡ Some state → slice_get last.board s ≡ Some (taken feed steps state)
