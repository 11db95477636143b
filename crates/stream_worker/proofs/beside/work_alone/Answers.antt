use Rattle.stream_worker.proofs.SeatsGoOn.{left-by}
use Rattle.stream_worker.proofs.beside.work_alone.Goals as goal

pub returns : goal.returns
returns g c =
    left-by c.args.run.now.shared.now _ c.args.seat c.work-refusal.new.seat c.work-refusal.result.1 c.work-refusal.ensures.is_at c.work-refusal.ensures.many c.work-refusal.ensures.follows c.work-refusal.ensures.ended c.work-refusal.ensures.refused
