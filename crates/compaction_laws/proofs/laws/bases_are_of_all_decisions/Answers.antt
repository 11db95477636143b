use Rattle.compaction_laws.proofs.DecisionLaws.{base_deciding}
use Rattle.compaction_laws.proofs.laws.bases_are_of_all_decisions.Goals as goal

pub returns : goal.returns
returns c = base_deciding
