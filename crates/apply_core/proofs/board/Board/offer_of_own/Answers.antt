use Rattle.std.proofs.Common.{ap}
use Rattle.std.specs.Arc.{arc_value}
use Rattle.std.specs.Option.{option_map}
use Rattle.std.specs.Result.{result_ok}
use Rattle.stream_core.specs.declared.step.Step.TheVariants.{Offer}
use Rattle.board_laws.specs.Event.{offer}
use Rattle.apply_core.proofs.ScheduleLaws.{refused-step}
use Rattle.apply_core.proofs.board.Board.offer_of_own.Goals as goal

pub returns-in-Err-offer_own : goal.returns-in-Err-offer_own
returns-in-Err-offer_own c =
    refused-step c.args.feed.now c.args.self.now c.offer_own.new.self c.args.s (Offer c.args.number) (offer (arc_value c.in-Ok.group)) (ap (λ r. option_map offer (result_ok r)) c.in-Ok.ensures.exact)
    c.in-Err-offer_own.refusal c.in-Err-offer_own.ensures.0 c.in-Err-offer_own.ensures.1
