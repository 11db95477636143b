use Rattle.stream_worker.proofs.PassesKeepTheRule.{merges_some}
use Rattle.stream_worker.proofs.lock.Lock.join.Goals as goal

pub absorb-requires-clause-rule : goal.absorb-requires-clause-rule
absorb-requires-clause-rule c = merges_some _ _ _ _ c.requires.mine.1 c.requires.mine.0 c.requires.theirs.1 c.requires.theirs.0
