use Rattle.log_laws.proofs.ByteLaws.{messages_read}
use Rattle.log_laws.proofs.laws.messages_are_read.Goals as goal

pub returns : goal.returns
returns c = messages_read c.events_are_read_again.ensures c.messages_are_read_again.ensures
