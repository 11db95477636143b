use Rattle.board_laws.proofs.Fresh.{passed-alike}
use Rattle.board_laws.proofs.KeptList.{passed-is_list}
use Rattle.board_laws.proofs.laws.kept_rows_are_one_list.Goals as goal

pub returns-clause-list : goal.returns-clause-list
returns-clause-list c = passed-is_list (λ a b. (c.keys_tie_where_they_are_equal.ensures a b).0)

pub returns-clause-first_groups : goal.returns-clause-first_groups
returns-clause-first_groups c = passed-alike
