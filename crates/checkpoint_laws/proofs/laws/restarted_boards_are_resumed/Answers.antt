use Rattle.checkpoint_laws.proofs.RestartedLaws.{restarted_boards}
use Rattle.checkpoint_laws.proofs.laws.restarted_boards_are_resumed.Goals as goal

pub returns : goal.returns
returns c = restarted_boards (λ a b. (c.keys_tie_where_they_are_equal.ensures a b).0)
