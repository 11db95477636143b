use Rattle.std.proofs.Common.{rules}
use Rattle.apply_core.proofs.added_streams.marks_with.Goals as goal

pub returns : goal.returns
returns c = search rules
