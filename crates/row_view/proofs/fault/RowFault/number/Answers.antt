use Rattle.std.proofs.Common.{rules}
use Rattle.row_view.proofs.fault.RowFault.number.Goals as goal

pub returns-in-LengthsPastValues : goal.returns-in-LengthsPastValues
returns-in-LengthsPastValues c = search rules

pub returns-in-RowTooLong : goal.returns-in-RowTooLong
returns-in-RowTooLong c = search rules

pub returns-in-TooManyColumns : goal.returns-in-TooManyColumns
returns-in-TooManyColumns c = search rules

pub returns-in-Wire : goal.returns-in-Wire
returns-in-Wire c = search rules
