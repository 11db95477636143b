use Rattle.log_events.proofs.CutLaws.{next_cut}
use Rattle.log_events.proofs.laws.next_is_cut.Goals as goal

pub returns : goal.returns
returns c = next_cut
