use Rattle.std.proofs.Common.{rules}
use Rattle.vrepl_main.proofs.CommandLaws.{ends_printed, ends_refused}
use Rattle.vrepl_show.proofs.showing.show_json.Goals as goal

pub returns-in-Ok-clause-ends : goal.returns-in-Ok-clause-ends
returns-in-Ok-clause-ends g c = ends_printed _ _ _ c.in-Ok.ensures

pub returns-in-Err-clause-ends : goal.returns-in-Err-clause-ends
returns-in-Err-clause-ends g c = ends_refused _ _ _ _ c.refuse_json.ensures.status (c.in-Err.refusal, c.in-Err.ensures, c.refuse_json.ensures.line)

pub returns-in-Ok-clause-quiet : goal.returns-in-Ok-clause-quiet
returns-in-Ok-clause-quiet g c = search rules

pub returns-in-Err-clause-quiet : goal.returns-in-Err-clause-quiet
returns-in-Err-clause-quiet g c = search rules
