use Rattle.vevent.proofs.WrittenEventLaws.{events_back}
use Rattle.vevent.proofs.written_laws.events_are_read_again.Goals as goal

pub returns : goal.returns
returns c = events_back c.fields_are_read_again.ensures c.rows_are_read_again.ensures
