use Rattle.vdiff_patch.proofs.WalkLaws.{first_of_source}
use Rattle.vdiff_patch.proofs.first.of_source.Goals as goal

pub returns : goal.returns
returns c = first_of_source _ _ _ _ c.requires.source c.requires.target c.requires.above
