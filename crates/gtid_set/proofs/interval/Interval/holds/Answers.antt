use Rattle.std.proofs.Common.{rules}
use Rattle.gtid_set.proofs.interval.Interval.holds.Goals as goal

pub returns-else-self-number : goal.returns-else-self-number
returns-else-self-number c = search rules
