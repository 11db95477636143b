use Rattle.std.proofs.Common.{rules}
use Rattle.row_view.proofs.written_row.length_of.Goals as goal

pub returns-in-Null : goal.returns-in-Null
returns-in-Null c = search rules
