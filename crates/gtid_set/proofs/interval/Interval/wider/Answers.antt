use Rattle.std.proofs.Common.{rules}
use Rattle.gtid_set.proofs.interval.Interval.wider.Goals as goal

pub returns : goal.returns
returns c = search rules
