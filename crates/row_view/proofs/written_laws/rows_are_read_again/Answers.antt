use Rattle.row_view.proofs.WrittenLaws.{rows_read_again}
use Rattle.row_view.proofs.written_laws.rows_are_read_again.Goals as goal

pub returns : goal.returns
returns c = rows_read_again c.fields_are_read_again.ensures c.numbers_are_read_again.ensures
