use Rattle.std.proofs.Common.{ℕ, Option, take, refl, ap, ◌∙◌}
use Rattle.std.specs.Arc.{arc_value}
use Rattle.crossbeam_channel.specs.Claims.{view}
use Rattle.board_laws.specs.declared.answer.Answer.TheVariants as answers
use Rattle.board_laws.specs.Event.{offer}
use Rattle.board_laws.specs.Meaning.{State}
use Rattle.board_laws.specs.Step.{answered}
use Rattle.stream_worker.specs.Private.Offers.{IsOfThatPlan}
use Rattle.stream_worker.proofs.SeatsTakeAndPut.{may_put, as-taken}
use Rattle.stream_worker.proofs.OutlinesStayTrue.{outlined, offer_outlined}
use Rattle.stream_worker.proofs.shared.Shared.offer_of.Goals as goal

pub call-result-requires : goal.call-result-requires
call-result-requires g c = λ k. (
  (refl, tt),
  as-taken (view c.args.seat.now.pass) c.args.seat.now.stream c.take-deal.result (view c.take-deal.new.pass) c.args.seat.now.cursor c.args.seat.now.own c.take-deal.ensures.taken c.args.seat.now.numbers
      (λ (o : Option State). IsOfThatPlan c.args.plan (arc_value c.args.group) o) c.requires.plan,
)

pub put_back-requires-clause-may : goal.put_back-requires-clause-may
put_back-requires-clause-may g c =
    may_put (view c.args.seat.now.pass) (view c.take-deal.new.pass) c.args.seat.now.stream c.take-deal.result c.call-result.new.self (offer (arc_value c.args.group)) (answered answers.Offered c.call-result.result)
    c.args.seat.now.own c.take-deal.ensures.taken c.call-result.ensures.step

pub invariant_of-seat-2-clause-outlined : goal.invariant_of-seat-2-clause-outlined
invariant_of-seat-2-clause-outlined g c =
    offer_outlined (view c.args.seat.now.pass) (view c.take-deal.new.pass) (view c.put_back.new.pass) c.args.seat.now.stream c.take-deal.result c.call-result.new.self _ c.args.seat.now.cursor c.cursor-seat.result
    c.args.seat.now.outline c.push.new.self c.keep.new.self c.args.seat.now.own c.args.seat.now.numbers c.args.seat.now.outlined c.take-deal.ensures.taken c.put_back.ensures.put c.cursor-seat.ensures (arc_value c.args.group)
    c.call-result.ensures.step c.in-Ok.ensures.pushed (c.keep.ensures ∙ ap (λ (n : ℕ). outlined (take n c.push.new.self.list) c.push.new.self.marks) c.read.ensures)
