use Rattle.std.proofs.Common.{◌∙◌, ap, sym}
use Rattle.std.specs.Arc.{arc_value}
use Rattle.std.specs.Option.{option_copied}
use Rattle.vrepl_main.proofs.StepLaws.{front_at}
use Rattle.vrepl_main.proofs.stepping.first_plan.Goals as goal

pub returns : goal.returns
returns c = front_at arc_value c.args.plans.now c.in-Some.first.now _ (sym c.first.ensures.value ∙ ap option_copied c.in-Some.is) c.in_ok-plan.ensures.cases
