use Rattle.crossbeam_channel.specs.Claims.{view}
use Rattle.stream_worker.proofs.SeatsTakeAndPut.{still-many}
use Rattle.stream_worker.proofs.StepsAreMade.{still-again}
use Rattle.stream_worker.proofs.shared.Shared.is_under.Goals as goal

pub returns-clause-many : goal.returns-clause-many
returns-clause-many g c =
    still-many (view c.args.seat.now.pass) (view c.take-deal.new.pass) (view c.put_back.new.pass) c.args.seat.now.stream c.take-deal.result c.args.seat.now.cursor c.args.seat.now.numbers c.take-deal.ensures.taken
    c.put_back.ensures.put

pub returns-clause-again : goal.returns-clause-again
returns-clause-again g c =
    still-again (view c.args.seat.now.pass) (view c.take-deal.new.pass) (view c.put_back.new.pass) c.args.seat.now.stream c.take-deal.result c.args.seat.now.own c.take-deal.ensures.taken c.put_back.ensures.put
