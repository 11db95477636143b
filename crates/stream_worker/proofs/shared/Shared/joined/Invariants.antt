use Rattle.std.proofs.Common.{◌≡◌, length, take, vec_len}
use Rattle.crossbeam_channel.specs.Claims.{view, IsSeatAt}
use Rattle.crossbeam_channel.specs.Ends.{sends_on}
use Rattle.stream_worker.specs.SeatOf.{AreAllKnown}
use Rattle.stream_worker.proofs.shared.Shared.joined.Given as goal

-- the pass knows what the seats know that were taken off the end
abbrev pub invariant-loop-seat : goal.invariant-loop-seat
invariant-loop-seat l =
    (length l.seats.items ≡ vec_len l.seats) × (l.seats.items ≡ take (vec_len l.seats) l.fn.seats.items) × IsSeatAt (sends_on l.self.lock.sender) l.pass
    × AreAllKnown l.fn.seats.items (vec_len l.seats) (view l.pass)

abbrev pub decreases-loop-seat : goal.decreases-loop-seat
decreases-loop-seat l = vec_len l.seats
