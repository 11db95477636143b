use Rattle.stream_worker.proofs.PassesKeepTheRule.{begins}
use Rattle.stream_worker.proofs.lock.Lock.new.Goals as goal

pub bounded_with-requires-clause-rule : goal.bounded_with-requires-clause-rule
bounded_with-requires-clause-rule c = begins
