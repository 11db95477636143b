use Rattle.std.proofs.Common.{rules}
use Rattle.row_view.proofs.same.is_same.Goals as goal

pub returns-in-Bytes-Bytes : goal.returns-in-Bytes-Bytes
returns-in-Bytes-Bytes c = search rules

pub returns-in-Null-Null : goal.returns-in-Null-Null
returns-in-Null-Null c = search rules
