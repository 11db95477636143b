use Rattle.std.proofs.Common.{◌∙◌, sym, subst, map, Result}
use Rattle.std.proofs.lemmas.Result.{err_from_is_err_and}
use Rattle.vrepl_main.specs.Given.{given_value}
use Rattle.vrepl_main.specs.Opening.{opened_bytes}
use Rattle.vrepl_main.specs.OpenedFeeds.{opened_value}
use Rattle.vrepl_main.specs.Reasons.{Reason, RefusesInputs}
use Rattle.vrepl_main.specs.ScriptRun.{ScriptGiven}
use Rattle.vrepl_main.proofs.StepLaws.{given_as, given_is, refuses_opened, refuses_script}
use Rattle.vrepl_main.proofs.scripted.open_scripted.Goals as goal

pub returns-in_err-opened-clause-scripted : goal.returns-in_err-opened-clause-scripted
returns-in_err-opened-clause-scripted c =
    let p = err_from_is_err_and c.from_residual.result c.from_residual.ensures.1 in
    let inputs = c.args.inputs.now in
    rw (p.1, p.2) (subst (λ (r : Result ScriptGiven Reason). RefusesInputs {X = ScriptGiven} c.in_err-opened.field-0.0 r) (given_as inputs.feeds.items (λ feed. feed.items) inputs.feed_form inputs.workflow.items inputs.script.items _ c.requires)
    (refuses_opened c.in_err-opened.field-0.0 (opened_bytes inputs.workflow.items (map given_value c.args.given.now)) inputs.script.items (rw c.deref.ensures.value at c.in_err-opened.ensures.opened)))

pub returns-in_err-steps-clause-scripted : goal.returns-in_err-steps-clause-scripted
returns-in_err-steps-clause-scripted c =
    let p = err_from_is_err_and c.from_residual-in_err-steps.result c.from_residual-in_err-steps.ensures.1 in
    let inputs = c.args.inputs.now in
    rw (p.1, p.2) (subst (λ (r : Result ScriptGiven Reason). RefusesInputs {X = ScriptGiven} c.in_err-steps.field-0.0 r) (given_as inputs.feeds.items (λ feed. feed.items) inputs.feed_form inputs.workflow.items inputs.script.items _ c.requires)
    (refuses_script c.in_err-steps.field-0.0 (opened_bytes inputs.workflow.items (map given_value c.args.given.now)) (opened_value c.in_ok-opened.opened) inputs.script.items (rw c.deref.ensures.value at c.in_ok-opened.ensures.opened)
    (rw c.deref-2.ensures.value at c.in_err-steps.ensures)))

pub returns-clause-scripted : goal.returns-clause-scripted
returns-clause-scripted c =
    let inputs = c.args.inputs.now in
    sym (given_as inputs.feeds.items (λ feed. feed.items) inputs.feed_form inputs.workflow.items inputs.script.items _ c.requires)
    ∙ given_is (opened_bytes inputs.workflow.items (map given_value c.args.given.now)) (opened_value c.in_ok-opened.opened) inputs.script.items c.in_ok-steps.steps.items (rw c.deref.ensures.value at c.in_ok-opened.ensures.opened) (rw c.deref-2.ensures.value at c.in_ok-steps.ensures)
