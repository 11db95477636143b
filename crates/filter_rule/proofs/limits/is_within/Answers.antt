use Rattle.std.proofs.Common.{rules}
use Rattle.filter_rule.proofs.limits.is_within.Goals as goal

pub returns-then-is_up_to-2 : goal.returns-then-is_up_to-2
returns-then-is_up_to-2 c = search rules
