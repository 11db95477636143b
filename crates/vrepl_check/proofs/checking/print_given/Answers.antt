use Rattle.std.proofs.Common.{refl, sym, subst, map, IfOk, Ok, Result}
use Rattle.std.proofs.lemmas.Result.{err_from_is_err_and}
use Rattle.feed_check.specs.Report.{ReportValue}
use Rattle.vrepl_main.specs.Command.{IsGivenText, PrintsText}
use Rattle.vrepl_main.specs.Given.{given_value}
use Rattle.vrepl_main.specs.OpenedFeeds.{opened_value}
use Rattle.vrepl_main.specs.Reasons.{Reason}
use Rattle.vrepl_main.proofs.CommandLaws.{refuses}
use Rattle.vrepl_check.specs.Checking.{IsFound, names_of, report_with, text_of_report}
use Rattle.vrepl_check.proofs.CheckingLaws.{refuses_behind, refused_checks, report_is}
use Rattle.vrepl_check.proofs.checking.print_given.Goals as goal

pub returns-in_err-opened-clause-printed : goal.returns-in_err-opened-clause-printed
returns-in_err-opened-clause-printed g c =
    let p = err_from_is_err_and c.from_residual.result c.from_residual.ensures.1 in
    let inputs = c.args.inputs.now in
    rw (p.1, p.2)
    (refuses IsGivenText _ _ _ (refuses_behind c.in_err-opened.field-0.0 _ (λ r. Ok r.text)
    (refuses_behind c.in_err-opened.field-0.0 _ (report_with inputs.report_form (names_of inputs) inputs.workflow.items (map given_value c.args.given.now)) (rw c.deref.ensures.value at c.in_err-opened.ensures.opened))))

pub returns-in_err-checks-clause-printed : goal.returns-in_err-checks-clause-printed
returns-in_err-checks-clause-printed g c =
    let p = err_from_is_err_and c.from_residual-in_err-checks.result c.from_residual-in_err-checks.ensures.1 in
    let inputs = c.args.inputs.now in
    rw (p.1, p.2)
    (refuses IsGivenText _ _ _ (refuses_behind _ _ (λ r. Ok r.text)
    (refused_checks inputs.report_form (names_of inputs) inputs.workflow.items (map given_value c.args.given.now) _ (opened_value c.in_ok-opened.opened) c.in_err-checks.field-0.0 (rw c.deref.ensures.value at c.in_ok-opened.ensures.opened)
    (rw (c.deref-2.ensures.value, c.in_ok-bytes.ensures, c.deref-3.ensures.value) at c.in_err-checks.ensures))))

pub returns-clause-found : goal.returns-clause-found
returns-clause-found g c =
    let inputs = c.args.inputs.now in
    subst (λ (reading : Result ReportValue Reason). IfOk c.print_said.result (λ found. IsFound c.args.inputs.now.strict found reading))
    (sym (report_is inputs.report_form (names_of inputs) inputs.workflow.items (map given_value c.args.given.now) _ (opened_value c.in_ok-opened.opened) _ _ (rw c.deref.ensures.value at c.in_ok-opened.ensures.opened)
    (rw (c.deref-2.ensures.value, c.in_ok-bytes.ensures, c.deref-3.ensures.value) at c.in_ok-checks.ensures) refl))
    (rw c.deref-4.ensures.value at c.print_said.ensures.found)

pub returns-clause-printed : goal.returns-clause-printed
returns-clause-printed g c =
    let inputs = c.args.inputs.now in
    subst (λ (reading : Result ReportValue Reason). PrintsText c.print_said.result (text_of_report reading) (g.W.Out.written c.args.out.now) (g.W.Out.written c.print_said.new.out))
    (sym (report_is inputs.report_form (names_of inputs) inputs.workflow.items (map given_value c.args.given.now) _ (opened_value c.in_ok-opened.opened) _ _ (rw c.deref.ensures.value at c.in_ok-opened.ensures.opened)
    (rw (c.deref-2.ensures.value, c.in_ok-bytes.ensures, c.deref-3.ensures.value) at c.in_ok-checks.ensures) refl))
    (rw c.deref-4.ensures.value at c.print_said.ensures.printed)
