use Rattle.std.proofs.Common.{◌≡◌, map}
use Rattle.stream_worker.specs.declared.seat_run.Ran.{Ran}
use Rattle.stream_worker.specs.Private.SeatRuns.{first_refusal}
use Rattle.stream_worker.proofs.parallel.gathered.Given as goal

-- the seats so far, and the first refusal among them
abbrev pub invariant-loop-ran : goal.invariant-loop-ran
invariant-loop-ran l = (l.seats.items ≡ map (λ (ran : Ran). ran.seat) l.yielded) × (l.lowest ≡ first_refusal l.yielded)
