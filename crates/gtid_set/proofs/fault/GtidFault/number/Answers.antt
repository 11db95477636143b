use Rattle.std.proofs.Common.{rules}
use Rattle.gtid_set.proofs.fault.GtidFault.number.Goals as goal

pub returns-in-Syntax : goal.returns-in-Syntax
returns-in-Syntax c = search rules
