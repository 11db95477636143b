use Rattle.compaction_laws.proofs.BytesLaws.{opens_compacted}
use Rattle.compaction_laws.proofs.laws.bytes_are_compacted.Goals as goal

pub returns : goal.returns
returns c = opens_compacted c.feeds_stay_what_they_were.ensures c.left_rows_have_columns.ensures
