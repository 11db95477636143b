use Rattle.std.proofs.Common.{rules}
use Rattle.gtid_set.proofs.set.GtidSetPartialEq.eq.Goals as goal

pub returns : goal.returns
returns c = search rules
