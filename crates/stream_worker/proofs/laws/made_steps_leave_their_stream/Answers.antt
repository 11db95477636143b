use Rattle.stream_worker.proofs.StepsAreMade.{made_go_on, made_leave}
use Rattle.stream_worker.proofs.laws.made_steps_leave_their_stream.Goals as goal

pub returns-clause-go_on : goal.returns-clause-go_on
returns-clause-go_on c = made_go_on

pub returns-clause-theirs : goal.returns-clause-theirs
returns-clause-theirs c = made_leave
