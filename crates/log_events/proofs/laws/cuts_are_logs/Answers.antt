use Rattle.log_events.proofs.CutLaws.{cuts_are}
use Rattle.log_events.proofs.laws.cuts_are_logs.Goals as goal

pub returns : goal.returns
returns c = cuts_are
