use Rattle.vrepl_compact.proofs.AskedLaws.{planned_at, unplanned_at}
use Rattle.vrepl_compact.proofs.opening.plan_of.Goals as goal

pub returns-in-Some-clause-plan : goal.returns-in-Some-clause-plan
returns-in-Some-clause-plan c = planned_at c.args.plans.now c.args.stream c.in-Some.plan.now c.in-Some.ensures

pub returns-in-None-clause-refused : goal.returns-in-None-clause-refused
returns-in-None-clause-refused c = unplanned_at c.args.plans.now c.args.stream c.in-None.ensures
