use Rattle.compaction_laws.proofs.BaseLaws.{base_of_left}
use Rattle.compaction_laws.proofs.laws.left_rows_are_a_base.Goals as goal

pub returns : goal.returns
returns c = base_of_left (λ a b. (c.keys_tie_where_they_are_equal.ensures a b).0)
