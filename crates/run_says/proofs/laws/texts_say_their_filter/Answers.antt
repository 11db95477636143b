use Rattle.run_says.proofs.RuleLaws.{filter_says}
use Rattle.run_says.proofs.laws.texts_say_their_filter.Goals as goal

pub returns : goal.returns
returns c = filter_says
