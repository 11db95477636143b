use Rattle.std.proofs.Common.{rules}
use Rattle.feed_readers.proofs.ReaderSteps.{sends}
use Rattle.feed_readers.proofs.ends.ReaderEnd.send.Goals as goal

pub try_send_as-requires-clause-rule : goal.try_send_as-requires-clause-rule
try_send_as-requires-clause-rule g c = (sends _ _ _ _ _ _ (search rules) (search rules) (search rules), λ items views h at. tt)
