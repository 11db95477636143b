use Rattle.std.proofs.Common.{refl}
use Rattle.stream_core.specs.declared.step.Step.TheVariants.{Offer}
use Rattle.stream_worker.specs.SeatOf.{known}
use Rattle.stream_worker.proofs.SeatsGoOn.{sits-refused}
use Rattle.stream_worker.proofs.working.take_in.Goals as goal

pub returns-in-Err-clause-refused : goal.returns-in-Err-clause-refused
returns-in-Err-clause-refused g c = λ follows.
    c.ended_by.ensures
    (sits-refused c.args.bench.now.feed.now c.args.seat.now (Offer c.args.number) c.args.seat.now refl c.know_feed.ensures follows 0 0
    (c.requires.leads.number, c.requires.leads.within, c.requires.leads.closed, refl) c.unready.result
    (c.unready.ensures c.args.bench.now.feed.now c.args.number (known c.args.seat.now) c.args.seat.now.stream c.in-Err.ensures.refused))
