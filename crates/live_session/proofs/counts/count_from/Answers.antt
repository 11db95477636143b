use Rattle.std.proofs.Common.{arith}
use Rattle.live_session.proofs.CountLaws.{goes-later}
use Rattle.live_session.proofs.counts.count_from.Goals as goal

pub returns-then-table-t : goal.returns-then-table-t
returns-then-table-t c =
    goes-later c.args.entries c.loop-key.entries c.next.new.self (c.in-Some.key.now, (c.in-Some.stream, c.in-Some.field-0-2.now)) c.args.t c.args.counts.now c.loop-key.counts c.in-Some.ensures.steps (omega arith) c.loop-key.invariant.rising c.loop-key.invariant.goes
