use Rattle.std.proofs.Common.{length, get_or, Some, refl, ap, ◌∙◌}
use Rattle.std.proofs.lemmas.Option.{slice_get_read}
use Rattle.source_feed.specs.Planned.{FeedValue}
use Rattle.stream_worker.proofs.SeatsGoOn.{has-feed, ran}
use Rattle.stream_worker.proofs.seat_run.run_seat.Goals as goal

pub returns : goal.returns
returns g c =
    ran c.args.job.run.shared.now c.args.job.run.feeds.now c.args.job.seat c.requires (get_or c.args.job.run.feeds.now c.args.job.seat.stream c.index-run-seat.result)
    (slice_get_read c.args.job.run.feeds.now (length c.args.job.run.feeds.now) c.args.job.seat.stream c.index-run-seat.result refl (has-feed c.args.job.run.shared.now c.args.job.run.feeds.now c.args.job.seat c.requires) c.index-run-seat.is ∙ ap (λ (f : FeedValue). Some f) c.index-run-seat.is)
    c.beside_reader.result c.beside_reader.ensures
