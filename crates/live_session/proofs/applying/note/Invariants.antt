use Rattle.std.proofs.Common.{◌≡◌, ◌≤◌, ℕ, Result, Bool, length, take, Some, slice_get}
use Rattle.board_laws.specs.declared.step_refusal.StepRefusal.{StepRefusal}
use Rattle.live_session.specs.Answered.{AreStepped, noted}
use Rattle.live_session.specs.declared.seat.Seat.{Seat}
use Rattle.live_session.proofs.applying.note.Given as goal

-- the last answers are noted
abbrev pub invariant-loop-answer : goal.invariant-loop-answer
invariant-loop-answer l = record {
  left : l.answers.items ≡ take l.s l.fn.answers.items;
  count : length l.answers.items ≡ l.s;
  stepped : AreStepped l.fn.seats l.seats;
  within : l.s ≤ length l.fn.answers.items;
  seats : length l.seats ≡ length l.fn.answers.items;
  noted_behind : (i : ℕ) (answer : Result Bool StepRefusal) (seat : Seat) → l.s ≤ i → slice_get l.fn.answers.items i ≡ Some answer → slice_get l.seats i ≡ Some seat → seat.step ≡ noted answer;
}

abbrev pub decreases-loop-answer : goal.decreases-loop-answer
decreases-loop-answer l = length l.answers.items
