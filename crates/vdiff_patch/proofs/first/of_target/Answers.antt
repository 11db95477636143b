use Rattle.vdiff_patch.proofs.WalkLaws.{first_of_target}
use Rattle.vdiff_patch.proofs.first.of_target.Goals as goal

pub returns : goal.returns
returns c = first_of_target _ _ _ _ c.requires.source c.requires.target c.requires.above
