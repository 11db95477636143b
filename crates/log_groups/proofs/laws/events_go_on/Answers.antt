use Rattle.log_groups.proofs.CutLaws.{events-go_on}
use Rattle.log_groups.proofs.laws.events_go_on.Goals as goal

pub returns : goal.returns
returns c = events-go_on
