use Rattle.std.proofs.Common.{refl}
use Rattle.stream_worker.proofs.JobsAreSeated.{jobs_pushed, seats_more}
use Rattle.stream_worker.proofs.parallel.jobs_of.Goals as goal

pub loop-seat-preserved : goal.loop-seat-preserved
loop-seat-preserved g c = (
  seats_more c.args.run.now.shared.now c.args.run.now.feeds.now c.loop-seat.jobs.items c.push.new.self.items _ c.loop-seat.yielded c.in_ok-push.ensures.items c.loop-seat.invariant.0,
  jobs_pushed c.args.run.now.shared.now c.args.run.now.feeds.now c.loop-seat.jobs.items c.push.new.self.items _ c.in_ok-push.ensures.items c.loop-seat.invariant.1 (refl, refl),
)
