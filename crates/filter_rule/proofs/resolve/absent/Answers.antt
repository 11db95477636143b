use Rattle.std.proofs.Common.{rules}
use Rattle.filter_rule.proofs.resolve.absent.Goals as goal

pub returns : goal.returns
returns c = search rules
