use Rattle.std.proofs.Common.{◌≡◌, ◌<◌, length, vec_len, subst, arith, rules}
use Rattle.std.proofs.lemmas.Option.{slice_get_within, get_or_from_slice_get}
use Rattle.stream_worker.specs.declared.seat_run.Ran.{Ran}
use Rattle.stream_worker.specs.Private.SeatRuns.{IsRan, AreRan}
use Rattle.stream_worker.proofs.JobsAreSeated.{job_ready, job_ran, if_both}
use Rattle.stream_worker.proofs.parallel.run_seats.Goals as goal

pub map_vec-requires-after_bounds : goal.map_vec-requires-after_bounds
map_vec-requires-after_bounds g c κs within = λ i job less is. (job_ready c.args.run.now.shared.now c.args.run.now.feeds.now c.args.seats.items c.requires c.in_ok-jobs.jobs.items c.in_ok-jobs.ensures.seats c.in_ok-jobs.ensures.jobs i job less is, search rules)

pub returns-clause-ran : goal.returns-clause-ran
returns-clause-ran g c =
    if_both c.map_vec.result (λ rans. vec_len rans ≡ vec_len c.in_ok-jobs.jobs) _ (λ rans. AreRan c.args.run.now.shared.now c.args.run.now.feeds.now rans.items)
    (λ rans long gives k ran at.
    let less : k < length c.in_ok-jobs.jobs.items = omega (arith, slice_get_within rans.items k ran at, rans.ok.0, long, c.in_ok-jobs.jobs.ok.0) in
    let one = (gives k ran less).1 in
    job_ran c.args.run.now.shared.now c.args.run.now.feeds.now c.args.seats.items c.requires c.in_ok-jobs.jobs.items c.in_ok-jobs.ensures.seats c.in_ok-jobs.ensures.jobs k one.job less one.job_read ran
    (subst (λ (r : Ran). IsRan one.job.run.shared.now one.job.run.feeds.now one.job.seat.stream r) (get_or_from_slice_get rans.items k ran ran at) one.call.met))
    c.map_vec.ensures.len c.map_vec.ensures.each
