use Rattle.std.proofs.Common.{subst}
use Rattle.source_feed.specs.Planned.{FeedValue}
use Rattle.stream_worker.specs.Private.SeatRuns.{IsLeft}
use Rattle.stream_worker.proofs.SeatsGoOn.{left-by}
use Rattle.stream_worker.proofs.beside.work_behind.Goals as goal

pub returns : goal.returns
returns g c =
    subst (λ (feed : FeedValue). IsLeft c.args.working.run.now.shared.now feed c.args.working.seat (record { seat = c.work-refusal.new.seat; refusal = c.work-refusal.result.1 })) c.feed.ensures
    (left-by c.args.working.run.now.shared.now _ c.args.working.seat c.work-refusal.new.seat c.work-refusal.result.1 c.work-refusal.ensures.is_at c.work-refusal.ensures.many c.work-refusal.ensures.follows c.work-refusal.ensures.ended c.work-refusal.ensures.refused)
