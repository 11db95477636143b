use Rattle.compaction_laws.proofs.DecisionLaws.{left_deciding}
use Rattle.compaction_laws.proofs.laws.left_rows_are_of_all_decisions.Goals as goal

pub returns : goal.returns
returns c = left_deciding
