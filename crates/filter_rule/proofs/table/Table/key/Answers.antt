use Rattle.std.proofs.Common.{rules}
use Rattle.filter_rule.proofs.table.Table.key.Goals as goal

pub returns : goal.returns
returns c = search rules
