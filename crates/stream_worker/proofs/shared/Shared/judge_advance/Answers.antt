use Rattle.std.proofs.Common.{ap, ◌∙◌, refl}
use Rattle.std.specs.Option.{option_map}
use Rattle.crossbeam_channel.specs.Claims.{view}
use Rattle.board_laws.specs.Lawful.{standing_of}
use Rattle.board_laws.specs.Event.{advance}
use Rattle.stream_worker.proofs.SeatsTakeAndPut.{own_as_seen, put_numbers}
use Rattle.stream_worker.proofs.OutlinesStayTrue.{still_outlined}
use Rattle.stream_worker.proofs.shared.Shared.judge_advance.Goals as goal

pub invariant_of-seat-clause-numbers : goal.invariant_of-seat-clause-numbers
invariant_of-seat-clause-numbers g c =
    put_numbers (view c.take-deal.new.pass) (view c.put_back.new.pass) c.args.seat.now.stream c.take-deal.result c.args.seat.now.cursor c.put_back.ensures.put
    (ap (option_map standing_of)
    (own_as_seen (view c.args.seat.now.pass) c.args.seat.now.stream c.take-deal.result c.args.seat.now.cursor c.args.seat.now.own c.take-deal.ensures.taken.says c.args.seat.now.numbers)
    ∙ c.args.seat.now.numbers)

pub invariant_of-seat-clause-outlined : goal.invariant_of-seat-clause-outlined
invariant_of-seat-clause-outlined g c =
    still_outlined (view c.args.seat.now.pass) (view c.take-deal.new.pass) (view c.put_back.new.pass) c.args.seat.now.stream c.take-deal.result c.take-deal.result advance _ c.args.seat.now.cursor c.args.seat.now.outline
    c.put_back.ensures.put c.judge_advance-refusal.ensures c.take-deal.ensures.taken c.args.seat.now.own c.args.seat.now.numbers c.args.seat.now.outlined refl
