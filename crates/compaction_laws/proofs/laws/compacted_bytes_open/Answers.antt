use Rattle.compaction_laws.proofs.FeedLaws.{bytes_open}
use Rattle.compaction_laws.proofs.laws.compacted_bytes_open.Goals as goal

pub returns : goal.returns
returns c = bytes_open
