use Rattle.std.proofs.Common.{rules}
use Rattle.filter_rule.proofs.limits.is_table_within.Goals as goal

pub returns-else-is_up_to : goal.returns-else-is_up_to
returns-else-is_up_to c = search rules

pub returns-then-is_up_to : goal.returns-then-is_up_to
returns-then-is_up_to c = search rules
