-- A list of steps on the streams of a board, one after another, each stream reading its own feed (this profile).
use Rattle.std.specs.Prelude.{◌≡◌, ℕ, List, [], ◌∷◌, Option, Some, MatchOption, IsOk, IsSomeAnd, Result, Ok, Err, slice_get}
use Rattle.std.specs.Option.{option_and_then, option_map_or}
use Rattle.stream_core.specs.declared.step.Step.{Step}
use Rattle.stream_core.specs.declared.step.Step.TheVariants.{Offer}
use Rattle.source_feed.specs.declared.fault.FeedFault.{FeedFault}
use Rattle.source_feed.specs.Planned.{FeedValue}
use Rattle.source_feed.specs.Touches.{prepared_at}
use Rattle.board_laws.specs.declared.answer.Answer.{Answer}
use Rattle.board_laws.specs.declared.refusal.Refusal.{Refusal}
use Rattle.board_laws.specs.declared.refusal.Refusal.TheVariants.{NoStream, FeedCount, Memory}
use Rattle.board_laws.specs.declared.step_refusal.StepRefusal.{StepRefusal}
use Rattle.board_laws.specs.declared.step_refusal.StepRefusal.TheVariants.{Unprepared, Refused}
use Rattle.board_laws.specs.Meaning.{State, Meaning}
use Rattle.board_laws.specs.Event.{Event}
use Rattle.board_laws.specs.Runs.{event_of_step}
use Rattle.board_laws.specs.Step.{IsRefusedOn, IsStep}

-- what a step of a schedule answers
abbrev pub Reply : Type 0
Reply = Result Answer StepRefusal

-- ---- one step

-- the group of an offer can't be prepared
abbrev pub IsUnprepared : FeedValue → Step → FeedFault → Type 0
IsUnprepared feed (Offer n) fault = prepared_at feed n ≡ Err fault
IsUnprepared feed step fault = ⊥

-- a step as an event on stream s of the board, where an offer is of the feed's group of that number
pub record IsEventStep (feed : FeedValue) (old : Meaning) (s : ℕ) (step : Step) (result : Result Answer Refusal) (new : Meaning) : Type 0 where
  pub event : Event
  pub of_step : event_of_step feed step ≡ Some event
  pub stepped : IsStep old s event result new

-- what stands where a step wants memory: an offer's group, which is prepared before the board judges it, is sound; any
-- other step the board refuses so
abbrev pub WantsMemory : FeedValue → Meaning → ℕ → Step → Type 0
WantsMemory feed old s (Offer n) = IsOk (prepared_at feed n)
WantsMemory feed old s step = IsSomeAnd (event_of_step feed step) (λ event. IsRefusedOn old s event Memory)

-- a step that the board refuses, or that wants memory, which changes nothing
abbrev pub IsRefusedStep : FeedValue → Meaning → ℕ → Step → Refusal → Meaning → Type 0
IsRefusedStep feed old s step Memory new = WantsMemory feed old s step × (new ≡ old)
IsRefusedStep feed old s step refusal new = IsEventStep feed old s step (Err refusal) new

-- what a step on stream s replies and leaves, by the stream's feed
abbrev pub IsReplyBy : FeedValue → Meaning → ℕ → Step → Reply → Meaning → Type 0
IsReplyBy feed old s step (Ok answer) new = IsEventStep feed old s step (Ok answer) new
IsReplyBy feed old s step (Err (Unprepared fault)) new = IsUnprepared feed step fault × (new ≡ old)
IsReplyBy feed old s step (Err (Refused refusal)) new = IsRefusedStep feed old s step refusal new

-- the feed of stream s of a board, where there are both
abbrev pub feed_of : List FeedValue → Meaning → ℕ → Option FeedValue
feed_of feeds board s = option_and_then (λ (state : State). slice_get feeds s) (slice_get board.streams s)

-- why a step is refused where there aren't: 115 where the board has no such stream, and 119 where the stream has no feed
abbrev pub unfed : Meaning → ℕ → Refusal
unfed board s = option_map_or (λ (state : State). FeedCount) (slice_get board.streams s) NoStream

-- the same of a step with its stream, where there is such a stream and it has a feed
abbrev pub IsReply : List FeedValue → Meaning → ℕ × Step → Reply → Meaning → Type 0
IsReply feeds old step reply new =
    MatchOption (feed_of feeds old step.0) ((reply ≡ Err (Refused (unfed old step.0))) × (new ≡ old)) (λ feed. IsReplyBy feed old step.0 step.1 reply new)

-- ---- steps one after another

-- the steps have these replies, one each, and a board between each two; a refusal doesn't end them
abbrev pub IsRun : List FeedValue → Meaning → List (ℕ × Step) → List Reply → Meaning → Type 0
IsRun feeds old [] [] new = new ≡ old
IsRun feeds old [] (reply ∷ replies) new = ⊥
IsRun feeds old (step ∷ steps) [] new = ⊥
IsRun feeds old (step ∷ steps) (reply ∷ replies) new =
    (between : Meaning) × IsReply feeds old step reply between × IsRun feeds between steps replies new
