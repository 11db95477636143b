use Rattle.serde_json.specs.View.{view}
use Rattle.filter_rule.proofs.read.plans_of_value.Goals as goal

pub plans_of_document-requires : goal.plans_of_document-requires
plans_of_document-requires c = record {
  value = view c.args.value.now;
  said = c.in_ok-said.said;
  says = c.in_ok-said.ensures;
  within = c.in_ok-document.ensures;
}
