use Rattle.std.proofs.Common.{◌≡◌, ◌≤◌, ℕ, length, vec_len, vec_capacity}
use Rattle.crossbeam_channel.specs.Claims.{view, IsSeatAt}
use Rattle.crossbeam_channel.specs.Ends.{sends_on}
use Rattle.stream_worker.specs.Knowing.{SawStreams}
use Rattle.stream_worker.specs.SeatOf.{AreSeatsOf, AreStatesSeen, SawAsMany}
use Rattle.stream_worker.proofs.shared.Shared.seats.Given as goal

-- the seats of the first k streams are claimed
abbrev pub invariant-loop-outline : goal.invariant-loop-outline
invariant-loop-outline g l =
    (l.k ≡ length l.yielded) × (length l.seats.items ≡ l.k) × (vec_len l.seats ≡ l.k) × (length l.fn.outlines.items ≤ vec_capacity l.seats) × AreSeatsOf l.self l.seats.items
    × AreStatesSeen l.seats.items (view l.fn.opener) × IsSeatAt (sends_on l.self.lock.sender) l.opener × (view l.opener ≡ view l.fn.opener)
    × ((n : ℕ) → SawStreams (view l.fn.opener) n → SawAsMany l.seats.items n)
