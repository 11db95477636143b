-- Calls of one seat, one after another, and what stays behind them (this profile).
use Rattle.std.specs.Prelude.{◌≡◌, ℕ, ◌<◌, List, [], ◌∷◌, Some, Result, IfSome, slice_get}
use Rattle.source_feed.specs.Touches.{PreparedValue}
use Rattle.board_laws.specs.declared.answer.Answer.{Answer}
use Rattle.board_laws.specs.declared.refusal.Refusal.{Refusal}
use Rattle.board_laws.specs.Meaning.{State}
use Rattle.board_laws.specs.Event.{Event}
use Rattle.stream_worker.specs.Knowing.{Laid, Knows}
use Rattle.stream_worker.specs.Rule.{StateGoesOn, AllGoOn}
use Rattle.stream_worker.specs.Seats.{IsSeatStep}

-- a call of a seat, and what it answered
pub record Call : Type 0 where
  pub event : Event
  pub result : Result Answer Refusal

-- calls of the seat of stream s, each made with what the one before left it knowing; other seats' calls may lie between
abbrev pub AreCalls : ℕ → List Call → Knows → Knows → Type 0
AreCalls s [] before after = after ≡ before
AreCalls s (call ∷ later) before after = (next : Knows) × IsSeatStep before s call.event call.result next × AreCalls s later next after

-- behind any calls of a seat every stream of the board goes on from the one that the seat knew before them
abbrev pub CallsGoOn : Type 0
CallsGoOn = (s : ℕ) (calls : List Call) (before after : Knows) (seen : Laid) → before.seen ≡ Some seen → AreCalls s calls before after → IfSome after.seen (λ left. AllGoOn seen.board left.board)

-- where a stream goes on, a group that was applied stays at its place
abbrev pub AppliedGroupsStay : Type 0
AppliedGroupsStay = (earlier later : State) (i : ℕ) (group : PreparedValue) → StateGoesOn earlier later → i < earlier.applied → slice_get earlier.list i ≡ Some group → slice_get later.list i ≡ Some group
