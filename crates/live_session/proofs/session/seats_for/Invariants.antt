use Rattle.std.proofs.Common.{◌≡◌, ℕ, length, map, Some, slice_get}
use Rattle.live_session.specs.Sessions.{tail_at}
use Rattle.live_session.specs.Stops.{fresh_seat}
use Rattle.live_session.specs.declared.seat.Seat.{Seat}
use Rattle.live_session.proofs.session.seats_for.Given as goal

-- a seat for each stream so far
abbrev pub invariant-loop-s : goal.invariant-loop-s
invariant-loop-s l = record {
  count : length l.seats.items ≡ l.s;
  each : (t : ℕ) (seat : Seat) → slice_get l.seats.items t ≡ Some seat → seat ≡ fresh_seat (tail_at (map (λ bytes. bytes.items) l.come) l.live t);
}
