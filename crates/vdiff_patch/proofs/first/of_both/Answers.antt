use Rattle.vdiff_patch.proofs.WalkLaws.{first_of_both}
use Rattle.vdiff_patch.proofs.first.of_both.Goals as goal

pub returns : goal.returns
returns c = first_of_both _ _ _ _ _ _ c.requires.source c.requires.target c.requires.key c.requires.rows
