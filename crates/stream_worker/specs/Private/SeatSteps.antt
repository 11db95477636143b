-- A step of a seat's stream on its course, and how a refused one ends it (this profile).
use Rattle.std.specs.Prelude.{◌≡◌, ◌++◌, ◌∷◌, [], ◌⊎◌, ℕ, List, Result, Ok, Err, Some, IsOk, IsSomeAnd}
use Rattle.stream_core.specs.declared.step.Step.{Step}
use Rattle.stream_core.specs.declared.step.Step.TheVariants.{Offer, Advance}
use Rattle.source_feed.specs.Planned.{FeedValue}
use Rattle.source_feed.specs.Touches.{prepared_at}
use Rattle.board_laws.specs.declared.answer.Answer.{Answer}
use Rattle.board_laws.specs.declared.refusal.Refusal.{Refusal}
use Rattle.board_laws.specs.declared.refusal.Refusal.TheVariants.{NoStream, WrongPlan, Diverged, Core, OwnedByOther, FeedCount, Memory}
use Rattle.board_laws.specs.declared.step_refusal.StepRefusal.{StepRefusal}
use Rattle.board_laws.specs.declared.step_refusal.StepRefusal.TheVariants.{Unprepared, Refused}
use Rattle.board_laws.specs.Event.{Event}
use Rattle.board_laws.specs.Runs.{event_of_step}
use Rattle.board_laws.specs.Schedule.{Reply, IsUnprepared}
use Rattle.stream_worker.specs.declared.receipt.Receipt.{Receipt}
use Rattle.stream_worker.specs.declared.seat.Seat.{Seat}
use Rattle.stream_worker.specs.Knowing.{Knows, state_seen}
use Rattle.apply_core.specs.RunRefused.{IsFirstUnsoundGroup}
use Rattle.stream_worker.specs.Seats.{IsSeatStep}
use Rattle.stream_worker.specs.Worked.{MeetsRow, WantsNextStep, IsLastReceipt}

-- ---- one step

-- a step of a seat's stream as an event, where an offer is of the feed's group of that number
pub record IsSeatEvent (feed : FeedValue) (before : Knows) (s : ℕ) (step : Step) (result : Result Answer Refusal) (after : Knows) : Type 0 where
  pub event : Event
  pub of_step : event_of_step feed step ≡ Some event
  pub stepped : IsSeatStep before s event result after

-- a step wants memory before the board is taken: it offers a group, which is sound
abbrev pub WantsGroup : FeedValue → Step → Type 0
WantsGroup feed (Offer n) = IsOk (prepared_at feed n)
WantsGroup feed step = ⊥

-- what a step of a seat's stream replies, and what the seat then knows; a group that can't be prepared, also for want
-- of memory, never comes to the lock
abbrev pub IsSeatReply : FeedValue → Knows → ℕ → Step → Reply → Knows → Type 0
IsSeatReply feed before s step (Ok answer) after = IsSeatEvent feed before s step (Ok answer) after
IsSeatReply feed before s step (Err (Unprepared fault)) after = IsUnprepared feed step fault × (after ≡ before)
IsSeatReply feed before s step (Err (Refused refusal)) after = ((refusal ≡ Memory) × (after ≡ before) × WantsGroup feed step) ⊎ IsSeatEvent feed before s step (Err refusal) after

-- ---- the receipts

-- one receipt more, of the group that the seat's stream applied last
pub record IsOneMore (seat : Seat) (old new : List Receipt) : Type 0 where
  pub receipt : Receipt
  pub items : new ≡ old ++ receipt ∷ []
  pub of_last : IsLastReceipt seat receipt

-- the receipts behind a step: one more behind an advance that is made, and else the same
abbrev pub AreBehind : Step → Reply → Seat → List Receipt → List Receipt → Type 0
AreBehind Advance (Ok answer) seat old new = IsOneMore seat old new
AreBehind step reply seat old new = new ≡ old

-- ---- how a refused step ends the stream's course

-- a step on the course is refused by the board for a row in the way or for want of memory alone, which it takes
abbrev pub EndsByItsBoard : FeedValue → Knows → ℕ → Refusal → Type 0
EndsByItsBoard feed after s NoStream = ⊥
EndsByItsBoard feed after s WrongPlan = ⊥
EndsByItsBoard feed after s Diverged = ⊥
EndsByItsBoard feed after s (Core refusal) = ⊥
EndsByItsBoard feed after s (OwnedByOther key owner) = MeetsRow feed after s key owner
EndsByItsBoard feed after s FeedCount = ⊥
EndsByItsBoard feed after s Memory = IsSomeAnd (state_seen after s) (WantsNextStep feed)

-- the same of any step, whose group may not be sound
abbrev pub EndsSeatStep : FeedValue → Knows → ℕ → StepRefusal → Type 0
EndsSeatStep feed after s (Unprepared fault) = IsFirstUnsoundGroup feed fault
EndsSeatStep feed after s (Refused refusal) = EndsByItsBoard feed after s refusal
