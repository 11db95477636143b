use Rattle.std.proofs.Common.{◌≡◌, ◌+◌, ◌-◌, ◌≤◌, length}
use Rattle.stream_worker.specs.Private.Turns.{AreReady}
use Rattle.stream_worker.proofs.working.ready_groups.Given as goal

-- the groups from the first number on stand ready, up to the next one
abbrev pub invariant-loop-next : goal.invariant-loop-next
invariant-loop-next g l =
    (g.A.Ahead.feed l.ahead ≡ l.bench.feed.now) × (l.next ≡ l.number + length l.readies.items) × (l.next ≤ l.end)
    × AreReady l.bench.feed.now l.seat.outline.marks l.number l.readies.items

abbrev pub decreases-loop-next : goal.decreases-loop-next
decreases-loop-next g l = l.end - l.next
