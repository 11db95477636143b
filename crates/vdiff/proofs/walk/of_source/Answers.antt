use Rattle.vdiff.proofs.WalkLaws.{next_of_source}
use Rattle.vdiff.proofs.walk.of_source.Goals as goal

pub returns : goal.returns
returns c = next_of_source _ _ _ _ c.requires.source c.requires.target
