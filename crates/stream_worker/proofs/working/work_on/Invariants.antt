use Rattle.std.proofs.Common.{◌≡◌}
use Rattle.stream_worker.specs.SeatOf.{IsSeatOf, SawNoOther}
use Rattle.stream_worker.specs.Steps.{HasStepped}
use Rattle.stream_worker.specs.Worked.{IsOfPlan, Follows, AreReceipts}
use Rattle.stream_worker.proofs.working.work_on.Given as goal

-- the seat is at its board, by steps that were made, with a receipt for each group that was applied; what stands ready is of the feed
abbrev pub invariant-loop : goal.invariant-loop
invariant-loop g l =
    IsSeatOf l.shared l.seat × IsOfPlan l.feed l.seat × (l.seat.stream ≡ l.initial.seat.stream) × SawNoOther l.initial.seat l.seat
    × AreReceipts l.initial.seat.cursor.applied l.seat l.receipts.items × (Follows l.feed l.initial.seat → Follows l.feed l.seat) × (g.A.Ahead.feed l.ahead ≡ l.feed) × HasStepped l.feed l.initial.seat l.seat
