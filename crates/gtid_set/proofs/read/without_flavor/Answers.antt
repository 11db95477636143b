use Rattle.std.proofs.Common.{rules}
use Rattle.gtid_set.proofs.read.without_flavor.Goals as goal

pub returns-in_default-Some : goal.returns-in_default-Some
returns-in_default-Some c = search rules
