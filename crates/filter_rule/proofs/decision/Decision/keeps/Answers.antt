use Rattle.std.proofs.Common.{rules}
use Rattle.filter_rule.proofs.decision.Decision.keeps.Goals as goal

pub returns-in-NoRule : goal.returns-in-NoRule
returns-in-NoRule c = search rules
