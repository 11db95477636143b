use Rattle.board_laws.proofs.JoinedRows.{states-lawful}
use Rattle.board_laws.proofs.JoinedBoards.{of_its_states, joined-lawful}
use Rattle.board_laws.proofs.join_laws.joined_boards_are_lawful.Goals as goal

pub returns-clause-states : goal.returns-clause-states
returns-clause-states c = states-lawful (λ a b. (c.keys_tie_where_they_are_equal.ensures a b).0)

pub returns-clause-one : goal.returns-clause-one
returns-clause-one c = of_its_states (λ a b. (c.keys_tie_where_they_are_equal.ensures a b).0)

pub returns-clause-boards : goal.returns-clause-boards
returns-clause-boards c = joined-lawful (λ a b. (c.keys_tie_where_they_are_equal.ensures a b).0)
