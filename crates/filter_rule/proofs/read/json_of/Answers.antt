use Rattle.serde_json.specs.View.{view}
use Rattle.filter_rule.proofs.JsonText.{json_refused, value_said, text_read}
use Rattle.filter_rule.proofs.read.json_of.Goals as goal

pub returns-in-Ok-clause-value : goal.returns-in-Ok-clause-value
returns-in-Ok-clause-value c = rw c.in-Ok.ensures.cases.0 at (value_said view c.in-Ok.text.now c.value_of.result (rw c.in-Ok.ensures.cases.0 c.in-Ok.ensures.cases.1) c.value_of.ensures.ok c.value_of.ensures.no_json c.value_of.ensures.refused)

pub returns-in-Ok-clause-read : goal.returns-in-Ok-clause-read
returns-in-Ok-clause-read c = rw c.in-Ok.ensures.cases.0 at (text_read view c.in-Ok.text.now c.value_of.result (rw c.in-Ok.ensures.cases.0 c.in-Ok.ensures.cases.1) c.value_of.ensures.ok)

pub returns-in-Err-clause-value : goal.returns-in-Err-clause-value
returns-in-Err-clause-value c = json_refused c.args.text.now (λ utf8. absurd (c.in-Err.ensures.cases.0 utf8))
