use Rattle.source_feed.proofs.KeptLaws.{are_kept_blocks}
use Rattle.source_feed.proofs.laws.groups_are_the_kept_blocks.Goals as goal

pub returns : goal.returns
returns c = are_kept_blocks
