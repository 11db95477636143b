use Rattle.std.proofs.Common.{rules}
use Rattle.row_view.proofs.row_buf.RowBuf.columns.Goals as goal

pub returns : goal.returns
returns c = search rules
