use Rattle.run_says.proofs.WorkflowLaws.{plans_say}
use Rattle.run_says.proofs.laws.workflows_say_their_plans.Goals as goal

pub returns : goal.returns
returns c = plans_say
