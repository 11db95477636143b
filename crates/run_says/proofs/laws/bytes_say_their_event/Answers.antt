use Rattle.run_says.proofs.MessageLaws.{event_says}
use Rattle.run_says.proofs.laws.bytes_say_their_event.Goals as goal

pub returns : goal.returns
returns c = event_says
