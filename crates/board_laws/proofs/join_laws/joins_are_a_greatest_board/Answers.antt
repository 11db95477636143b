use Rattle.board_laws.proofs.JoinedBoards.{commutes, with_itself, associates, joined_running}
use Rattle.board_laws.proofs.join_laws.joins_are_a_greatest_board.Goals as goal

pub returns-clause-commute : goal.returns-clause-commute
returns-clause-commute c = commutes (λ a b. (c.keys_tie_where_they_are_equal.ensures a b).0)

pub returns-clause-itself : goal.returns-clause-itself
returns-clause-itself c = with_itself (λ a b. (c.keys_tie_where_they_are_equal.ensures a b).0)

pub returns-clause-associate : goal.returns-clause-associate
returns-clause-associate c = λ a b d _ _ _ ab bd ad. associates a b d ab bd ad

pub returns-clause-running : goal.returns-clause-running
returns-clause-running c = joined_running
