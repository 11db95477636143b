use Rattle.std.proofs.Common.{refl, subst}
use Rattle.std.specs.Arc.{arc_value}
use Rattle.board_laws.specs.declared.answer.Answer.TheVariants.{Offered}
use Rattle.board_laws.specs.Event.{offer}
use Rattle.board_laws.specs.Step.{answered}
use Rattle.stream_worker.specs.Seats.{IsBoardStep}
use Rattle.stream_worker.proofs.TurnsTakeGroupsIn.{ready-next, ready-plan, made-in, refused-in}
use Rattle.stream_worker.proofs.deal.Deal.take_in.Goals as goal

pub call-requires : goal.call-requires
call-requires c = λ k. ((refl, tt), ready-plan c.args.self.now c.args.s c.args.ready c.requires)

pub call-requires-2 : goal.call-requires-2
call-requires-2 c = λ k. (
  (refl, tt),
  ready-next c.call.new.self c.args.self.now c.args.s c.args.ready (Offered c.in_ok-call.field-0)
      (subst (λ r. IsBoardStep c.args.self.now c.args.s (offer (arc_value c.args.ready.group)) (answered Offered r) c.call.new.self) c.in_ok-call.was c.call.ensures.step) c.requires,
)

pub returns-clause-made : goal.returns-clause-made
returns-clause-made c =
    made-in c.args.self.now c.call.new.self c.call-2.new.self c.args.s (arc_value c.args.ready.group) (Offered c.in_ok-call.field-0)
    (subst (λ r. IsBoardStep c.args.self.now c.args.s (offer (arc_value c.args.ready.group)) (answered Offered r) c.call.new.self) c.in_ok-call.was c.call.ensures.step) c.call-2.result c.call-2.ensures.step c.call-2.ensures.gives

pub returns-clause-refused : goal.returns-clause-refused
returns-clause-refused c =
    refused-in c.args.self.now c.call.new.self c.call-2.new.self c.args.s (arc_value c.args.ready.group) (Offered c.in_ok-call.field-0)
    (subst (λ r. IsBoardStep c.args.self.now c.args.s (offer (arc_value c.args.ready.group)) (answered Offered r) c.call.new.self) c.in_ok-call.was c.call.ensures.step) c.call-2.result c.call-2.ensures.step
