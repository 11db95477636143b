use Rattle.std.proofs.Common.{subst}
use Rattle.std.specs.Arc.{arc_value}
use Rattle.source_feed.specs.Touches.{PreparedValue}
use Rattle.board_laws.specs.declared.answer.Answer.TheVariants as answers
use Rattle.board_laws.specs.Event.{offer}
use Rattle.board_laws.specs.Step.{answered, IsStep}
use Rattle.stream_worker.specs.Knowing.{Laid}
use Rattle.stream_worker.specs.Seats.{IsBoardStep}
use Rattle.stream_worker.proofs.StepsOfOneStream.{of_step}
use Rattle.stream_worker.proofs.deal.Deal.judge_offer.Goals as goal

pub returns : goal.returns
returns c =
    subst (λ (laid : Laid). IsBoardStep c.args.self.now c.args.s (offer (arc_value c.args.group.now)) (answered answers.Offered c.judge_offer.result) laid) c.self.view_is
    (of_step c.self.inside.board c.self.inside.board c.args.self.now c.self.inside.given c.args.s (offer (arc_value c.args.group.now)) (answered answers.Offered c.judge_offer.result) c.self.view_is c.self.invariant
    (subst (λ (group : PreparedValue). IsStep c.self.inside.board c.args.s (offer group) (answered answers.Offered c.judge_offer.result) c.self.inside.board) c.deref.ensures c.judge_offer.ensures))
