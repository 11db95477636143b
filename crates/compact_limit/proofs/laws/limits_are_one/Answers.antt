use Rattle.compact_limit.proofs.LimitLaws.{one_limit, limited_or_refused}
use Rattle.compact_limit.proofs.laws.limits_are_one.Goals as goal

pub returns-clause-one : goal.returns-clause-one
returns-clause-one c = λ plans feed stream at checkpoints one other well whole. one_limit c.checkpoints_say_one_thing.ensures plans well feed whole stream at checkpoints one other

pub returns-clause-or_refused : goal.returns-clause-or_refused
returns-clause-or_refused c = λ plans feed stream at checkpoints number fault well whole. limited_or_refused c.checkpoints_say_one_thing.ensures plans well feed whole stream at checkpoints number fault
