use Rattle.std.proofs.Common.{rules}
use Rattle.vrepl_main.proofs.input.read_whole.Goals as goal

pub returns-clause-limit : goal.returns-clause-limit
returns-clause-limit g c = search rules
