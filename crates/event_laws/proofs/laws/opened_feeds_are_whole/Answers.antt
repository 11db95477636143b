use Rattle.event_laws.proofs.RestLaws.{opened_whole}
use Rattle.event_laws.proofs.laws.opened_feeds_are_whole.Goals as goal

pub returns : goal.returns
returns c = opened_whole
