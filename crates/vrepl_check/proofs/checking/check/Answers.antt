use Rattle.std.proofs.Common.{rules, refl}
use Rattle.vrepl_main.proofs.CommandLaws.{ends_found, ends_printed, ends_refused}
use Rattle.vrepl_check.proofs.CleanLaws.{status-none, status-some}
use Rattle.vrepl_check.proofs.checking.check.Goals as goal

pub returns-in-Ok-false-clause-ends : goal.returns-in-Ok-false-clause-ends
returns-in-Ok-false-clause-ends g c = ends_printed _ _ _ (search rules, c.in-Ok-false.ensures.printed)

pub returns-in-Ok-true-clause-ends : goal.returns-in-Ok-true-clause-ends
returns-in-Ok-true-clause-ends g c = ends_found _ _ _ (search rules, c.in-Ok-true.ensures.printed)

pub returns-in-Err-clause-ends : goal.returns-in-Err-clause-ends
returns-in-Err-clause-ends g c = ends_refused _ _ _ _ c.refuse_as.ensures.status (c.in-Err.refusal, _, c.in-Err.ensures.printed, c.refuse_as.ensures.line)

pub returns-in-Ok-false-clause-good : goal.returns-in-Ok-false-clause-good
returns-in-Ok-false-clause-good g c = λ _. status-none c.checks_warn_unless_feeds_are_faultless.ensures.faultless c.checks_warn_unless_feeds_are_faultless.ensures.clean _ _ refl (search rules)

pub returns-in-Ok-true-clause-good : goal.returns-in-Ok-true-clause-good
returns-in-Ok-true-clause-good g c = λ _. status-some c.checks_warn_unless_feeds_are_faultless.ensures.faultless c.checks_warn_unless_feeds_are_faultless.ensures.clean _ _ refl (search rules)

pub returns-in-Err-clause-good : goal.returns-in-Err-clause-good
returns-in-Err-clause-good g c = λ other. absurd (other c.refuse_as.ensures.status)
