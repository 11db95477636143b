use Rattle.vevent.proofs.WrittenPartLaws.{table_parts_back}
use Rattle.vevent.proofs.written_laws.table_parts_are_read_again.Goals as goal

pub returns : goal.returns
returns c = table_parts_back c.fields_are_read_again.ensures c.rows_are_read_again.ensures
