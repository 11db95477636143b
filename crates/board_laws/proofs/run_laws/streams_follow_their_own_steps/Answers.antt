use Rattle.board_laws.proofs.Following.{follows, run-lawful, same-board}
use Rattle.board_laws.proofs.run_laws.streams_follow_their_own_steps.Goals as goal

pub returns-clause-follow : goal.returns-clause-follow
returns-clause-follow c = follows

pub returns-clause-lawful : goal.returns-clause-lawful
returns-clause-lawful c = run-lawful

pub returns-clause-rows : goal.returns-clause-rows
returns-clause-rows c = same-board (λ a b. (c.keys_tie_where_they_are_equal.ensures a b).0)
