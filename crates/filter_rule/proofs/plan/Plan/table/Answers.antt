use Rattle.std.proofs.Common.{rules}
use Rattle.filter_rule.proofs.plan.Plan.table.Goals as goal

pub returns-clause-number : goal.returns-clause-number
returns-clause-number c = search rules
