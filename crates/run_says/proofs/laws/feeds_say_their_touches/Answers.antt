use Rattle.run_says.proofs.RunLaws.{touches_say}
use Rattle.run_says.proofs.laws.feeds_say_their_touches.Goals as goal

pub returns : goal.returns
returns c = touches_say
