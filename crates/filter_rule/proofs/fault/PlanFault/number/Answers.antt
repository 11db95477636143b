use Rattle.std.proofs.Common.{rules}
use Rattle.filter_rule.proofs.fault.PlanFault.number.Goals as goal

pub returns-in-KeyType : goal.returns-in-KeyType
returns-in-KeyType c = search rules
