use Rattle.apply_core.proofs.StepLaws.{step-at}
use Rattle.apply_core.proofs.snapshots.open_on.Goals as goal

pub returns : goal.returns
returns c = step-at _ c.in_ok-place.place _ c.index-streams-place.result c.in_ok-place.ensures.place c.in_ok-place.ensures.within _ _ _ c.open_at.ensures
