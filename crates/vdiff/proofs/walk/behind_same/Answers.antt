use Rattle.vdiff.proofs.WalkLaws.{same_at_first, same_for_longer}
use Rattle.vdiff.proofs.walk.behind_same.Goals as goal

pub loop-ours-init : goal.loop-ours-init
loop-ours-init c = same_at_first _ _ c.requires.source c.requires.target

pub loop-ours-preserved : goal.loop-ours-preserved
loop-ours-preserved c =
    let w = rw (c.in-Some-Some.ensures.cases.0, c.in-Some-Some.ensures'.cases.0) at c.loop-ours.invariant in
    same_for_longer _ _ _ _ _ _ w (c.are_same.ensures.0 c.if-not-are_same.false)
