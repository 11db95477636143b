use Rattle.run_says.proofs.MessageLaws.{row_says}
use Rattle.run_says.proofs.laws.rows_say_their_columns.Goals as goal

pub returns : goal.returns
returns c = row_says
