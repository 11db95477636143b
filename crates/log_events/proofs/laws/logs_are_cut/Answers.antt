use Rattle.log_events.proofs.CutLaws.{are_cut}
use Rattle.log_events.proofs.laws.logs_are_cut.Goals as goal

pub returns : goal.returns
returns c = are_cut
