use Rattle.checkpoint_laws.proofs.ResumedLaws.{resumed_boards}
use Rattle.checkpoint_laws.proofs.laws.resumed_boards_are_lawful.Goals as goal

pub returns : goal.returns
returns c = resumed_boards (λ a b. (c.keys_tie_where_they_are_equal.ensures a b).0)
