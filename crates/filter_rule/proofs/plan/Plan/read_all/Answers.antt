use Rattle.filter_rule.proofs.ReadLaws.{first_of, json_only, json_is_none, stands_in}
use Rattle.filter_rule.proofs.SoundLaws.{is_faultless}
use Rattle.filter_rule.proofs.WholeLaws.{are_plans, are_of_streams}
use Rattle.filter_rule.proofs.plan.Plan.read_all.Goals as goal

pub returns-clause-json : goal.returns-clause-json
returns-clause-json c = λ none. json_only c.args.text.now c.plans_of.result c.plans_of.ensures.plans none

pub returns-clause-first_rule : goal.returns-clause-first_rule
returns-clause-first_rule c = first_of c.args.text.now c.plans_of.result c.plans_of.ensures.plans

pub returns-clause-no_json : goal.returns-clause-no_json
returns-clause-no_json c = λ is. json_is_none c.args.text.now c.plans_of.result c.plans_of.ensures.plans is

pub returns-clause-well_formed : goal.returns-clause-well_formed
returns-clause-well_formed c = are_plans c.args.text.now c.plans_of.result c.plans_of.ensures.plans

pub returns-clause-streams : goal.returns-clause-streams
returns-clause-streams c = are_of_streams c.args.text.now c.plans_of.result c.plans_of.ensures.plans

pub returns-clause-stands : goal.returns-clause-stands
returns-clause-stands c = stands_in c.args.text.now c.plans_of.result c.plans_of.ensures.plans

pub returns-clause-sound : goal.returns-clause-sound
returns-clause-sound c = is_faultless c.args.text.now c.plans_of.result c.plans_of.ensures.plans
