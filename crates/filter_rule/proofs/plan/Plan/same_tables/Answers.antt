use Rattle.std.proofs.Common.{rules}
use Rattle.filter_rule.proofs.plan.Plan.same_tables.Goals as goal

pub returns : goal.returns
returns c = search rules
