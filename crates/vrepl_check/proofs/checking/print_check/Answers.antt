use Rattle.std.proofs.Common.{subst, Result, IfOk}
use Rattle.vrepl_main.specs.Command.{PrintsText}
use Rattle.vrepl_main.specs.Reasons.{Reason}
use Rattle.feed_check.specs.Report.{ReportValue}
use Rattle.vrepl_check.specs.Checking.{IsFound, text_of_report}
use Rattle.vrepl_check.proofs.CheckingLaws.{given_as}
use Rattle.vrepl_check.proofs.checking.print_check.Goals as goal

pub returns-clause-found : goal.returns-clause-found
returns-clause-found g c = subst (λ (reading : Result ReportValue Reason). IfOk c.print_given.result (λ found. IsFound c.args.inputs.now.strict found reading)) (given_as c.args.inputs.now _ (rw c.deref.ensures.value at c.in_ok-given.ensures)) (rw c.deref-2.ensures.value at c.print_given.ensures.found)

pub returns-clause-printed : goal.returns-clause-printed
returns-clause-printed g c =
    subst (λ (reading : Result ReportValue Reason). PrintsText c.print_given.result (text_of_report reading) (g.W.Out.written c.args.out.now) (g.W.Out.written c.print_given.new.out)) (given_as c.args.inputs.now _ (rw c.deref.ensures.value at c.in_ok-given.ensures)) (rw c.deref-2.ensures.value at c.print_given.ensures.printed)
