use Rattle.vrepl_check.proofs.CleanLaws.{not_refused_runs}
use Rattle.vrepl_check.proofs.laws.faultless_runs_are_not_refused.Goals as goal

pub returns : goal.returns
returns c = not_refused_runs
