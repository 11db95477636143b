use Rattle.event_laws.proofs.RestLaws.{rest_of_whole}
use Rattle.event_laws.proofs.laws.rests_of_whole_are_whole.Goals as goal

pub returns : goal.returns
returns c = rest_of_whole
