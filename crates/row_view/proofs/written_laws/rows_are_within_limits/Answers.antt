use Rattle.row_view.proofs.LimitLaws.{rows_within, picked_within}
use Rattle.row_view.proofs.written_laws.rows_are_within_limits.Goals as goal

pub returns-clause-rows : goal.returns-clause-rows
returns-clause-rows c = rows_within

pub returns-clause-picked : goal.returns-clause-picked
returns-clause-picked c = picked_within
