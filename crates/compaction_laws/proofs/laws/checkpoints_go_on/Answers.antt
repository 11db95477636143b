use Rattle.compaction_laws.proofs.CheckpointLaws.{goes_on}
use Rattle.compaction_laws.proofs.laws.checkpoints_go_on.Goals as goal

pub returns : goal.returns
returns c = λ old fewer events d saved state whole from at. goes_on (λ a b. (c.keys_tie_where_they_are_equal.ensures a b).0) old fewer events d saved whole state from at
