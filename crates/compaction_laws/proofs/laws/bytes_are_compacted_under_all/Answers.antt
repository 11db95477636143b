use Rattle.compaction_laws.proofs.DecisionLaws.{compacted_deciding}
use Rattle.compaction_laws.proofs.laws.bytes_are_compacted_under_all.Goals as goal

pub returns : goal.returns
returns c = compacted_deciding c.bytes_are_compacted.ensures
