use Rattle.event_laws.proofs.MessageLaws.{messages_again}
use Rattle.event_laws.proofs.laws.messages_are_read_again.Goals as goal

pub returns : goal.returns
returns c = messages_again c.fields_are_read_again.ensures
