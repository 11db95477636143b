use Rattle.board_laws.proofs.JoinedFeeds.{feeds_joined, none_refused}
use Rattle.board_laws.proofs.join_laws.boards_can_be_joined.Goals as goal

pub returns-clause-disjoint : goal.returns-clause-disjoint
returns-clause-disjoint c = feeds_joined

pub returns-clause-joined : goal.returns-clause-joined
returns-clause-joined c = none_refused (λ a b. (c.keys_tie_where_they_are_equal.ensures a b).0)
