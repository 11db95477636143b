use Rattle.stream_worker.proofs.CallsKeepGroups.{calls_go_on, applied_stay}
use Rattle.stream_worker.proofs.laws.calls_keep_applied_groups.Goals as goal

pub returns-clause-go_on : goal.returns-clause-go_on
returns-clause-go_on c = calls_go_on

pub returns-clause-stay : goal.returns-clause-stay
returns-clause-stay c = applied_stay
