use Rattle.std.proofs.Common.{rules}
use Rattle.proto_wire.proofs.sint64.zigzag.Goals as goal

pub returns-else-value-ge0-clause-undone : goal.returns-else-value-ge0-clause-undone
returns-else-value-ge0-clause-undone c = search rules

pub returns-else-value-ge0-clause-value : goal.returns-else-value-ge0-clause-value
returns-else-value-ge0-clause-value c = search rules
