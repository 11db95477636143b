use Rattle.feed_check.proofs.BaseLaws.{bases_told}
use Rattle.feed_check.proofs.laws.bases_are_told.Goals as goal

pub returns : goal.returns
returns c = bases_told
