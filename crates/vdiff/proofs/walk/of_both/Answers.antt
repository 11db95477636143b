use Rattle.vdiff.proofs.WalkLaws.{next_of_both}
use Rattle.vdiff.proofs.walk.of_both.Goals as goal

pub returns : goal.returns
returns c = next_of_both _ _ _ _ _ _ c.requires.source c.requires.target c.requires.key c.requires.rows
