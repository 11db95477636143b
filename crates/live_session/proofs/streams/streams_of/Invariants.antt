use Rattle.std.proofs.Common.{◌≡◌, ℕ, length, map, Some, slice_get}
use Rattle.live_json.specs.Answers.{StreamValue}
use Rattle.live_json.specs.Private.Parts.{stream_value}
use Rattle.live_session.specs.Sessions.{IsTold}
use Rattle.live_session.specs.declared.seat.Seat.{Seat}
use Rattle.live_session.proofs.streams.streams_of.Given as goal

-- the first streams are told
abbrev pub invariant-loop-s : goal.invariant-loop-s
invariant-loop-s l = record {
  count : length l.told.items ≡ l.s;
  each : (s : ℕ) (seat : Seat) (one : StreamValue) → slice_get l.seats s ≡ Some seat → slice_get (map stream_value l.told.items) s ≡ Some one → IsTold l.live s seat one;
}
