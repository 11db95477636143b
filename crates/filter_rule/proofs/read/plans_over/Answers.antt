use Rattle.filter_rule.proofs.PlanLaws.{stream_here}
use Rattle.filter_rule.proofs.read.plans_over.Goals as goal

pub plan_over-requires : goal.plan_over-requires
plan_over-requires c = stream_here _ _ c.loop-stream.yielded _ _ c.args.streams.items c.in-Some.stream c.loop-stream.invariant.1 c.in-Some.ensures.steps.0 c.requires
