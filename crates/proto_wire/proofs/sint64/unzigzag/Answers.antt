use Rattle.std.proofs.Common.{rules}
use Rattle.proto_wire.proofs.sint64.unzigzag.Goals as goal

pub returns-else-number-eq0-clause-undone : goal.returns-else-number-eq0-clause-undone
returns-else-number-eq0-clause-undone c = search rules

pub returns-else-number-eq0-clause-value : goal.returns-else-number-eq0-clause-value
returns-else-number-eq0-clause-value c = search rules
