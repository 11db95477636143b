use Rattle.std.proofs.Common.{map}
use Rattle.std.specs.Arc.{arc_value}
use Rattle.vrepl_choices.specs.UntilValue.{until_value}
use Rattle.vrepl_main.specs.Ending.{opened_until}
use Rattle.vrepl_main.specs.Given.{given_value}
use Rattle.vrepl_main.specs.Opening.{opened_bytes}
use Rattle.vrepl_main.specs.OpenedFeeds.{opened_value}
use Rattle.vrepl_main.proofs.RunLaws.{filled_run, refused_run}
use Rattle.vrepl_main.proofs.running.filled_board.Goals as goal

pub returns-in-Err-run_streams-clause-refused : goal.returns-in-Err-run_streams-clause-refused
returns-in-Err-run_streams-clause-refused g c =
    refused_run (opened_until (map until_value c.args.inputs.now.until.now) (opened_bytes c.args.inputs.now.workflow.items (map given_value c.args.given.now))) (opened_value c.in-Ok.opened) (arc_value c.in-Ok-first_plan.plan)
    (rw c.deref.ensures.value at c.in-Ok.ensures.opened) (rw c.deref-2.ensures.value at c.in-Ok-first_plan.ensures)
    c.in-Err-run_streams.refusal c.in-Err-run_streams.ensures.refused

pub returns-in-Ok-run_streams-clause-filled : goal.returns-in-Ok-run_streams-clause-filled
returns-in-Ok-run_streams-clause-filled g c =
    filled_run (opened_until (map until_value c.args.inputs.now.until.now) (opened_bytes c.args.inputs.now.workflow.items (map given_value c.args.given.now))) (opened_value c.in-Ok.opened) (arc_value c.in-Ok-first_plan.plan)
    (rw c.deref.ensures.value at c.in-Ok.ensures.opened) (rw c.deref-2.ensures.value at c.in-Ok-first_plan.ensures)
    c.in-Ok-run_streams.fed.board c.in-Ok-run_streams.ensures.ends
