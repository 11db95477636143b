use Rattle.std.proofs.lemmas.Result.{err_from_is_err_and}
use Rattle.vrepl_main.specs.ResumedRun.{AreFirstBehind}
use Rattle.vrepl_main.proofs.CommandLaws.{refuses}
use Rattle.vrepl_main.proofs.ResumeLaws.{left_as}
use Rattle.vrepl_main.proofs.resuming.print_replies.Goals as goal

pub open_scripted-requires : goal.open_scripted-requires
open_scripted-requires g c = rw c.deref-2.ensures.value (rw c.deref.ensures.value at c.in-Ok.ensures)

pub returns-in_err-scripted : goal.returns-in_err-scripted
returns-in_err-scripted g c =
    let p = err_from_is_err_and c.from_residual.result c.from_residual.ensures.1 in
    rw (p.1, p.2) (refuses (AreFirstBehind c.args.inputs.now.checkpoint.items) _ _ _ c.in_err-scripted.ensures.scripted)

pub returns : goal.returns
returns g c =
    left_as c.args.inputs.now.checkpoint.items _ _ c.print_resumed.result _ _ c.in_ok-scripted.ensures.scripted (rw c.deref-3.ensures.value at c.print_resumed.ensures)
