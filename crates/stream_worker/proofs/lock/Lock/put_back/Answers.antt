use Rattle.std.proofs.Common.{rules}
use Rattle.stream_worker.proofs.PassesKeepTheRule.{puts}
use Rattle.stream_worker.proofs.lock.Lock.put_back.Goals as goal

pub try_send_as-requires-clause-rule : goal.try_send_as-requires-clause-rule
try_send_as-requires-clause-rule g c = (puts _ _ _ _ (search rules) (search rules), λ items views h at. tt)
