use Rattle.run_says.proofs.PositionLaws.{position_says}
use Rattle.run_says.proofs.laws.texts_say_their_position.Goals as goal

pub returns : goal.returns
returns c = position_says
