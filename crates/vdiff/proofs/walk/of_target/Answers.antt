use Rattle.vdiff.proofs.WalkLaws.{next_of_target}
use Rattle.vdiff.proofs.walk.of_target.Goals as goal

pub returns : goal.returns
returns c = next_of_target _ _ _ _ c.requires.target c.requires.source
