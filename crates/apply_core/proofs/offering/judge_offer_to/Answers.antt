use Rattle.apply_core.proofs.StepLaws.{own-step-still}
use Rattle.apply_core.proofs.offering.judge_offer_to.Goals as goal

pub returns : goal.returns
returns c = own-step-still _ _ c.in_ok-stream.stream.now c.in_ok-stream.ensures.stream _ _ c.judge_offer.ensures
