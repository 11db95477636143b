use Rattle.compaction_laws.proofs.HistoryLaws.{stays_from}
use Rattle.compaction_laws.proofs.laws.bases_keep_histories.Goals as goal

pub returns : goal.returns
returns c = stays_from
