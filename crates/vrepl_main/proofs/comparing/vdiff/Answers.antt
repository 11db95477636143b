use Rattle.vrepl_main.proofs.VdiffLaws.{read_once}
use Rattle.vrepl_main.proofs.CommandLaws.{ends_printed, ends_found, ends_refused}
use Rattle.vrepl_main.proofs.comparing.vdiff.Goals as goal

pub returns-in-Ok-Same-clause-determined : goal.returns-in-Ok-Same-clause-determined
returns-in-Ok-Same-clause-determined g c = read_once c.texts_are_read_once.ensures c.args.workflow.now c.args.source.now c.args.target.now

pub returns-in-Ok-Differ-clause-determined : goal.returns-in-Ok-Differ-clause-determined
returns-in-Ok-Differ-clause-determined g c = read_once c.texts_are_read_once.ensures c.args.workflow.now c.args.source.now c.args.target.now

pub returns-in-Err-clause-determined : goal.returns-in-Err-clause-determined
returns-in-Err-clause-determined g c = read_once c.texts_are_read_once.ensures c.args.workflow.now c.args.source.now c.args.target.now

pub returns-in-Ok-Same-clause-ends : goal.returns-in-Ok-Same-clause-ends
returns-in-Ok-Same-clause-ends g c = ends_printed _ _ _ (rw c.in-Ok-Same.field-0-is at c.in-Ok-Same.ensures.compared)

pub returns-in-Ok-Differ-clause-ends : goal.returns-in-Ok-Differ-clause-ends
returns-in-Ok-Differ-clause-ends g c = ends_found _ _ _ (rw c.in-Ok-Differ.field-0-is at c.in-Ok-Differ.ensures.compared)

pub returns-in-Err-clause-ends : goal.returns-in-Err-clause-ends
returns-in-Err-clause-ends g c = ends_refused _ _ _ _ c.refuse.ensures.status (c.in-Err.refusal, c.in-Err.ensures.refused, c.refuse.ensures.line)
