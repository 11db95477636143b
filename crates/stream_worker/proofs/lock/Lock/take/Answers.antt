use Rattle.stream_worker.proofs.PassesKeepTheRule.{takes}
use Rattle.stream_worker.proofs.lock.Lock.take.Goals as goal

pub try_recv_as-requires-clause-rule : goal.try_recv_as-requires-clause-rule
try_recv_as-requires-clause-rule g c = (takes _ _, λ items views h at. tt)

pub recv_as-requires-clause-rule : goal.recv_as-requires-clause-rule
recv_as-requires-clause-rule g c = (takes _ _, λ items views h at. tt)
