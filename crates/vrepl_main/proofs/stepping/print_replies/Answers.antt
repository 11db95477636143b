use Rattle.std.proofs.lemmas.Result.{err_from_is_err_and}
use Rattle.vrepl_main.specs.Replied.{AreFirstReplies}
use Rattle.vrepl_main.proofs.CommandLaws.{refuses}
use Rattle.vrepl_main.proofs.StepLaws.{left_as}
use Rattle.vrepl_main.proofs.stepping.print_replies.Goals as goal

pub open_scripted-requires : goal.open_scripted-requires
open_scripted-requires g c = rw c.deref-2.ensures.value (rw c.deref.ensures.value at c.in_ok-given.ensures)

pub returns-in_err-scripted : goal.returns-in_err-scripted
returns-in_err-scripted g c =
    let p = err_from_is_err_and c.from_residual-in_err-scripted.result c.from_residual-in_err-scripted.ensures.1 in
    rw (p.1, p.2) (refuses AreFirstReplies _ _ _ c.in_err-scripted.ensures.scripted)

pub returns : goal.returns
returns g c = left_as c.print_run.result _ _ _ _ c.in_ok-scripted.ensures.scripted c.print_run.ensures
