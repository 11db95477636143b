use Rattle.std.proofs.Common.{rules}
use Rattle.apply_core.proofs.stream.Stream.mark.Goals as goal

pub returns : goal.returns
returns c = search rules
