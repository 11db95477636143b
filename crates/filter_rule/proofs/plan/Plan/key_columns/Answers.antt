use Rattle.filter_rule.proofs.PlanShapeLaws.{key_places}
use Rattle.filter_rule.proofs.plan.Plan.key_columns.Goals as goal

pub returns-in-Some-clause-within : goal.returns-in-Some-clause-within
returns-in-Some-clause-within c = key_places c.args.self.now c.args.t c.in-Some.ensures.whole

pub returns-in-None-clause-within : goal.returns-in-None-clause-within
returns-in-None-clause-within c = key_places c.args.self.now c.args.t c.in-None.ensures.whole
