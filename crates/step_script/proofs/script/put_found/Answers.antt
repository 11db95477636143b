use Rattle.std.proofs.Common.{rules}
use Rattle.step_script.proofs.script.put_found.Goals as goal

pub returns-in-Bad-clause-refused : goal.returns-in-Bad-clause-refused
returns-in-Bad-clause-refused c = search rules
