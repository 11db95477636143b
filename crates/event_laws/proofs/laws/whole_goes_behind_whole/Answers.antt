use Rattle.event_laws.proofs.RestLaws.{whole_behind}
use Rattle.event_laws.proofs.laws.whole_goes_behind_whole.Goals as goal

pub returns : goal.returns
returns c = whole_behind
