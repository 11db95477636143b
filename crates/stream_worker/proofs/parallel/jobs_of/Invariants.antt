use Rattle.std.proofs.Common.{◌≡◌, map}
use Rattle.stream_worker.specs.Private.SeatRuns.{AreJobs}
use Rattle.stream_worker.proofs.parallel.jobs_of.Given as goal

-- the jobs of the seats so far
abbrev pub invariant-loop-seat : goal.invariant-loop-seat
invariant-loop-seat g l = (map (λ job. job.seat) l.jobs.items ≡ l.yielded) × AreJobs l.run.shared.now l.run.feeds.now l.jobs.items
