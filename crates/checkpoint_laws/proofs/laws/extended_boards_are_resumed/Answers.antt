use Rattle.checkpoint_laws.proofs.MoreLaws.{extended_boards}
use Rattle.checkpoint_laws.proofs.laws.extended_boards_are_resumed.Goals as goal

pub returns : goal.returns
returns c = extended_boards (λ a b. (c.keys_tie_where_they_are_equal.ensures a b).0)
