use Rattle.run_says.proofs.RunLaws.{run_is_right}
use Rattle.run_says.proofs.laws.runs_are_right.Goals as goal

pub returns : goal.returns
returns c = run_is_right
