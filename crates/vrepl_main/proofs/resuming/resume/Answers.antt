use Rattle.std.proofs.Common.{rules}
use Rattle.vrepl_main.proofs.CommandLaws.{ends_printed, ends_refused}
use Rattle.vrepl_main.proofs.resuming.resume.Goals as goal

pub returns-in-Ok-clause-ends : goal.returns-in-Ok-clause-ends
returns-in-Ok-clause-ends g c = ends_printed _ _ _ c.in-Ok.ensures

pub returns-in-Err-Given-clause-ends : goal.returns-in-Err-Given-clause-ends
returns-in-Err-Given-clause-ends g c = ends_refused _ _ _ _ c.refuse.ensures.status (c.in-Err-Given.field-0, c.in-Err-Given.ensures, rw c.in-Err-Given.field-0-is c.refuse.ensures.line)

pub returns-in-Err-Checkpoint-clause-ends : goal.returns-in-Err-Checkpoint-clause-ends
returns-in-Err-Checkpoint-clause-ends g c = ends_refused _ _ _ _ c.refuse_over.ensures.status (c.in-Err-Checkpoint.field-0, c.in-Err-Checkpoint.ensures, rw c.in-Err-Checkpoint.field-0-is (rw c.deref.ensures at c.refuse_over.ensures.line))

pub returns-in-Ok-clause-quiet : goal.returns-in-Ok-clause-quiet
returns-in-Ok-clause-quiet g c = search rules
