use Rattle.log_events.proofs.LogLaws.{log_answers, log_only, log_refuses}
use Rattle.log_events.proofs.log.logs_are_read.Goals as goal

pub returns-clause-spelled : goal.returns-clause-spelled
returns-clause-spelled c = log_answers

pub returns-clause-only : goal.returns-clause-only
returns-clause-only c = log_only

pub returns-clause-refuses : goal.returns-clause-refuses
returns-clause-refuses c = log_refuses
