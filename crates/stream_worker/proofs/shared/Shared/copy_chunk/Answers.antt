use Rattle.crossbeam_channel.specs.Claims.{view}
use Rattle.board_laws.specs.declared.answer.Answer.TheVariants as answers
use Rattle.board_laws.specs.Event.{copy_rows}
use Rattle.stream_worker.proofs.SeatsTakeAndPut.{may_put}
use Rattle.stream_worker.proofs.OutlinesStayTrue.{copy_outlined}
use Rattle.stream_worker.proofs.shared.Shared.copy_chunk.Goals as goal

pub put_back-requires-clause-may : goal.put_back-requires-clause-may
put_back-requires-clause-may g c =
    may_put (view c.args.seat.now.pass) (view c.take-deal.new.pass) c.args.seat.now.stream c.take-deal.result c.call-result.new.self (copy_rows c.args.c) _ c.args.seat.now.own c.take-deal.ensures.taken
    c.call-result.ensures.step

pub invariant_of-seat-in-Ok-clause-outlined : goal.invariant_of-seat-in-Ok-clause-outlined
invariant_of-seat-in-Ok-clause-outlined g c =
    copy_outlined (view c.args.seat.now.pass) (view c.take-deal.new.pass) (view c.put_back.new.pass) c.args.seat.now.stream c.take-deal.result c.call-result.new.self c.args.c (answers.Copied c.in-Ok.copied) c.args.seat.now.cursor
    c.args.seat.now.outline c.mark.new.self c.in-Ok.marks c.put_back.ensures.put c.in-Ok.ensures.step c.take-deal.ensures.taken c.args.seat.now.own c.args.seat.now.numbers c.args.seat.now.outlined c.in-Ok.ensures.gives c.mark.ensures
