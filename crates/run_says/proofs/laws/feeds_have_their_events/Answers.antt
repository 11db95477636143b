use Rattle.run_says.proofs.MessageLaws.{feed_says}
use Rattle.run_says.proofs.laws.feeds_have_their_events.Goals as goal

pub returns : goal.returns
returns c = feed_says
