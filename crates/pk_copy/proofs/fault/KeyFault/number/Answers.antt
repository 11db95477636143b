use Rattle.std.proofs.Common.{rules}
use Rattle.pk_copy.proofs.fault.KeyFault.number.Goals as goal

pub returns-in-NullKey : goal.returns-in-NullKey
returns-in-NullKey c = search rules
