use Rattle.stream_worker.proofs.PassesKeepTheRule.{forks}
use Rattle.stream_worker.proofs.lock.Lock.pass.Goals as goal

pub another-requires-clause-rule : goal.another-requires-clause-rule
another-requires-clause-rule c = forks _ _ c.requires.streams
