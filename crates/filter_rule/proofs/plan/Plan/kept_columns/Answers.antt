use Rattle.filter_rule.proofs.PlanShapeLaws.{plan_kept}
use Rattle.filter_rule.proofs.plan.Plan.kept_columns.Goals as goal

pub returns-in-Some-clause-kept : goal.returns-in-Some-clause-kept
returns-in-Some-clause-kept c = plan_kept c.args.self.now c.args.t c.in-Some.ensures.whole

pub returns-in-None-clause-kept : goal.returns-in-None-clause-kept
returns-in-None-clause-kept c = plan_kept c.args.self.now c.args.t c.in-None.ensures.whole
