use Rattle.std.proofs.Common.{refl}
use Rattle.crossbeam_channel.specs.Claims.{view}
use Rattle.board_laws.specs.Event.{open_at}
use Rattle.stream_worker.proofs.SeatsTakeAndPut.{may_put}
use Rattle.stream_worker.proofs.OutlinesStayTrue.{still_outlined}
use Rattle.stream_worker.proofs.shared.Shared.open_snapshot.Goals as goal

pub put_back-requires-clause-may : goal.put_back-requires-clause-may
put_back-requires-clause-may g c =
    may_put (view c.args.seat.now.pass) (view c.take-deal.new.pass) c.args.seat.now.stream c.take-deal.result c.call-result.new.self (open_at c.args.group) _ c.args.seat.now.own c.take-deal.ensures.taken
    c.call-result.ensures.step

pub invariant_of-seat-clause-outlined : goal.invariant_of-seat-clause-outlined
invariant_of-seat-clause-outlined g c =
    still_outlined (view c.args.seat.now.pass) (view c.take-deal.new.pass) (view c.put_back.new.pass) c.args.seat.now.stream c.take-deal.result c.call-result.new.self (open_at c.args.group) _ c.args.seat.now.cursor
    c.args.seat.now.outline c.put_back.ensures.put c.call-result.ensures.step c.take-deal.ensures.taken c.args.seat.now.own c.args.seat.now.numbers c.args.seat.now.outlined refl
