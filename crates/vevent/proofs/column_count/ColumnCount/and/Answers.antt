use Rattle.std.proofs.Common.{rules}
use Rattle.vevent.proofs.column_count.ColumnCount.and.Goals as goal

pub returns-in-Same-Same : goal.returns-in-Same-Same
returns-in-Same-Same c = search rules
