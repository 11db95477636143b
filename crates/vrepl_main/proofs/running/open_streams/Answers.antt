use Rattle.std.proofs.Common.{map}
use Rattle.std.proofs.lemmas.Result.{err_from_is_err_and}
use Rattle.vrepl_choices.specs.UntilValue.{until_value}
use Rattle.vrepl_main.specs.Given.{given_value}
use Rattle.vrepl_main.specs.Opening.{opened_bytes}
use Rattle.vrepl_main.specs.OpenedFeeds.{opened_value}
use Rattle.vrepl_main.proofs.EndLaws.{ended_behind, refused_before, refused_behind}
use Rattle.vrepl_main.proofs.running.open_streams.Goals as goal

pub returns-in_err-whole-clause-opened : goal.returns-in_err-whole-clause-opened
returns-in_err-whole-clause-opened g c =
    let p = err_from_is_err_and c.from_residual.result c.from_residual.ensures.1 in
    rw (p.1, p.2) (refused_before c.in_err-whole.field-0.0 (map until_value c.args.until.now) (opened_bytes c.args.workflow.now (map given_value c.args.given.now)) c.in_err-whole.ensures.opened)

pub returns-in_err-opened-clause-opened : goal.returns-in_err-opened-clause-opened
returns-in_err-opened-clause-opened g c =
    let p = err_from_is_err_and c.from_residual-in_err-opened.result c.from_residual-in_err-opened.ensures.1 in
    rw (p.1, p.2) (refused_behind c.in_err-opened.field-0.0 (map until_value c.args.until.now) (opened_bytes c.args.workflow.now (map given_value c.args.given.now)) (opened_value c.in_ok-whole.whole) c.in_ok-whole.ensures.opened c.in_err-opened.ensures.ended)

pub returns-clause-opened : goal.returns-clause-opened
returns-clause-opened g c = ended_behind (map until_value c.args.until.now) (opened_bytes c.args.workflow.now (map given_value c.args.given.now)) (opened_value c.in_ok-whole.whole) (opened_value c.in_ok-opened.opened) c.in_ok-whole.ensures.opened c.in_ok-opened.ensures.ended
