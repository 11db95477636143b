use Rattle.source_feed.proofs.SoundLaws.{touches_by_change}
use Rattle.source_feed.proofs.laws.touches_are_those_of_the_changes.Goals as goal

pub returns : goal.returns
returns c = touches_by_change
