use Rattle.std.proofs.Common.{rules}
use Rattle.gtid_set.proofs.printed.NumbersTextDisplay.fmt.Goals as goal

pub returns-else-self-clause-writes : goal.returns-else-self-clause-writes
returns-else-self-clause-writes g c = search rules

pub returns-then-self-clause-writes : goal.returns-then-self-clause-writes
returns-then-self-clause-writes g c = search rules
