use Rattle.board_laws.proofs.JoinedStates.{states_total, states_tie, running_states}
use Rattle.board_laws.proofs.join_laws.states_are_ordered.Goals as goal

pub returns-clause-total : goal.returns-clause-total
returns-clause-total c = states_total

pub returns-clause-tie : goal.returns-clause-tie
returns-clause-tie c = states_tie (λ a b. (c.keys_tie_where_they_are_equal.ensures a b).0)

pub returns-clause-running : goal.returns-clause-running
returns-clause-running c = running_states
