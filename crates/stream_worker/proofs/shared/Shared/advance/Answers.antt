use Rattle.std.proofs.Common.{ℕ, refl, subst}
use Rattle.crossbeam_channel.specs.Claims.{view}
use Rattle.board_laws.specs.Event.{advance}
use Rattle.stream_worker.specs.Outlines.{IsNextIn}
use Rattle.stream_worker.proofs.SeatsTakeAndPut.{may_put}
use Rattle.stream_worker.proofs.OutlinesStayTrue.{next_taken, still_outlined}
use Rattle.stream_worker.proofs.shared.Shared.advance.Goals as goal

pub put_back-requires-clause-may : goal.put_back-requires-clause-may
put_back-requires-clause-may g c =
    may_put (view c.args.seat.now.pass) (view c.take-deal.new.pass) c.args.seat.now.stream c.take-deal.result c.call-result.new.self advance _ c.args.seat.now.own c.take-deal.ensures.taken c.call-result.ensures.step

-- what was built is what the stream applies next on the board that was taken
pub call-result-requires : goal.call-result-requires
call-result-requires g c = λ k. (
  (refl, tt),
  next_taken (view c.args.seat.now.pass) c.args.seat.now.stream c.take-deal.result (view c.take-deal.new.pass) c.args.seat.now.cursor c.args.seat.now.outline c.in-Ok.next c.args.seat.now.own c.take-deal.ensures.taken
      c.args.seat.now.numbers c.args.seat.now.outlined
      (subst (λ (n : ℕ). IsNextIn c.args.seat.now.outline n c.in-Ok.next) c.applied.ensures c.in-Ok.ensures),
)

pub invariant_of-seat-2-clause-outlined : goal.invariant_of-seat-2-clause-outlined
invariant_of-seat-2-clause-outlined g c =
    still_outlined (view c.args.seat.now.pass) (view c.take-deal.new.pass) (view c.put_back.new.pass) c.args.seat.now.stream c.take-deal.result c.call-result.new.self advance _ c.args.seat.now.cursor c.args.seat.now.outline
    c.put_back.ensures.put c.call-result.ensures.step c.take-deal.ensures.taken c.args.seat.now.own c.args.seat.now.numbers c.args.seat.now.outlined refl
