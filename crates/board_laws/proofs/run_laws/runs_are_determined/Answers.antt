use Rattle.board_laws.proofs.Determined.{one_run}
use Rattle.board_laws.proofs.run_laws.runs_are_determined.Goals as goal

pub returns : goal.returns
returns c = one_run (λ a b. (c.keys_tie_where_they_are_equal.ensures a b).0)
