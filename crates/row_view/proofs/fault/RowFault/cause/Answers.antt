use Rattle.std.proofs.Common.{rules}
use Rattle.row_view.proofs.fault.RowFault.cause.Goals as goal

pub returns-in-Wire : goal.returns-in-Wire
returns-in-Wire c = search rules

pub returns-in_default : goal.returns-in_default
returns-in_default c = search rules
