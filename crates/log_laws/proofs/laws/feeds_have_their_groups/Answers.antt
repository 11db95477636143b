use Rattle.log_laws.proofs.ByteLaws.{feed_has}
use Rattle.log_laws.proofs.laws.feeds_have_their_groups.Goals as goal

pub returns : goal.returns
returns c = feed_has
