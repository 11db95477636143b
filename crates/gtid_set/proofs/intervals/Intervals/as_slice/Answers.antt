use Rattle.std.proofs.Common.{rules}
use Rattle.gtid_set.proofs.intervals.Intervals.as_slice.Goals as goal

pub returns-in-Many : goal.returns-in-Many
returns-in-Many c = search rules
