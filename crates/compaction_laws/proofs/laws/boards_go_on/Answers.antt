use Rattle.compaction_laws.proofs.CheckpointLaws.{boards_go_on}
use Rattle.compaction_laws.proofs.laws.boards_go_on.Goals as goal

pub returns : goal.returns
returns c = boards_go_on (λ a b. (c.keys_tie_where_they_are_equal.ensures a b).0)
