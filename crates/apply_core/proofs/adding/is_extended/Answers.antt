use Rattle.std.proofs.Common.{rules}
use Rattle.apply_core.proofs.adding.is_extended.Goals as goal

pub returns : goal.returns
returns c = search rules
