use Rattle.std.proofs.Common.{◌∙◌, sym}
use Rattle.vdiff_patch.proofs.walk.Differences.take_first.Goals as goal

pub invariant_of-self : goal.invariant_of-self
invariant_of-self c = (c.in-Some.ensures.source_rises, c.in-Some.ensures.target_rises)

pub returns-in-None : goal.returns-in-None
returns-in-None c =
    let none = sym c.self.view_is ∙ c.in-None.ensures in
    (none, none)

pub returns-in-Some : goal.returns-in-Some
returns-in-Some c = sym c.self.view_is ∙ c.in-Some.ensures.whole
