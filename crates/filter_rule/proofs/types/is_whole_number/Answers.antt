use Rattle.std.proofs.Common.{rules}
use Rattle.filter_rule.proofs.types.is_whole_number.Goals as goal

pub returns-in_default : goal.returns-in_default
returns-in_default c = search rules
