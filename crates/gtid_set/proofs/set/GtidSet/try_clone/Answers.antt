use Rattle.std.proofs.Common.{rules}
use Rattle.gtid_set.proofs.set.GtidSet.try_clone.Goals as goal

pub returns-clause-value : goal.returns-clause-value
returns-clause-value c = search rules
