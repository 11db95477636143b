use Rattle.vrepl_main.proofs.HandedOnLaws.{makes_saved}
use Rattle.vrepl_main.proofs.SaveLaws.{saved_as}
use Rattle.vrepl_main.proofs.saving.saved_checkpoint.Goals as goal

pub open_scripted-requires : goal.open_scripted-requires
open_scripted-requires c = rw c.deref-2.ensures.value (rw c.deref.ensures.value at c.in_ok-given.ensures)

pub returns-clause-saved : goal.returns-clause-saved
returns-clause-saved c = saved_as _ _ c.in_ok-saved.saved c.in_ok-scripted.ensures.scripted (c.in_ok-saved.ensures.behind, c.in_ok-saved.ensures.steps)

pub returns-clause-right : goal.returns-clause-right
returns-clause-right c =
    makes_saved c.args.inputs.now c.in_ok-saved.saved (saved_as _ _ c.in_ok-saved.saved c.in_ok-scripted.ensures.scripted (c.in_ok-saved.ensures.behind, c.in_ok-saved.ensures.steps))
