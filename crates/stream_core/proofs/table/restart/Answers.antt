use Rattle.std.proofs.Common.{rules}
use Rattle.stream_core.proofs.table.restart.Goals as goal

pub returns : goal.returns
returns c = search rules
