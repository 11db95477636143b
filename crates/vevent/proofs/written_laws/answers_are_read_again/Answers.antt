use Rattle.vevent.proofs.WrittenPartLaws.{answers_back}
use Rattle.vevent.proofs.written_laws.answers_are_read_again.Goals as goal

pub returns : goal.returns
returns c = answers_back c.fields_are_read_again.ensures c.rows_are_read_again.ensures
