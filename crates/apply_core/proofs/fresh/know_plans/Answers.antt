use Rattle.std.proofs.Common.{map}
use Rattle.std.specs.Arc.{arc_value}
use Rattle.filter_rule.specs.WellFormed.{IsPlan}
use Rattle.apply_core.proofs.AfterSaveLaws.{all_more}
use Rattle.apply_core.proofs.StreamLaws.{item_at}
use Rattle.apply_core.proofs.fresh.know_plans.Goals as goal

pub loop-plan-preserved : goal.loop-plan-preserved
loop-plan-preserved c =
    let here = item_at arc_value c.args.plans.now c.loop-plan.plan-index c.plan-item.result c.deref.result.now c.loop-plan-test.true c.plan-item.is c.deref.ensures in
    all_more IsPlan (map arc_value c.args.plans.now) c.loop-plan.plan-index c.deref.result.now here c.tables.ensures.well_formed c.loop-plan.invariant
