use Rattle.std.proofs.Common.{ℕ, take, ap, ◌∙◌}
use Rattle.crossbeam_channel.specs.Claims.{view}
use Rattle.stream_worker.proofs.OutlinesStayTrue.{outlined, restart_outlined}
use Rattle.stream_worker.proofs.shared.Shared.restart.Goals as goal

pub invariant_of-seat-clause-outlined : goal.invariant_of-seat-clause-outlined
invariant_of-seat-clause-outlined g c =
    restart_outlined (view c.args.seat.now.pass) (view c.take-deal.new.pass) (view c.put_back.new.pass) c.args.seat.now.stream c.take-deal.result c.call-result.new.self _ c.args.seat.now.cursor c.cursor-seat.result
    c.args.seat.now.outline c.args.seat.now.outline c.keep.new.self c.args.seat.now.own c.args.seat.now.numbers c.args.seat.now.outlined c.take-deal.ensures.taken c.put_back.ensures.put c.cursor-seat.ensures
    c.call-result.ensures.step (c.keep.ensures ∙ ap (λ (n : ℕ). outlined (take n c.args.seat.now.outline.list) c.args.seat.now.outline.marks) c.read.ensures)
