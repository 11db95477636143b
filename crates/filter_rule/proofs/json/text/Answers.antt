use Rattle.serde_json.specs.View.{view}
use Rattle.filter_rule.proofs.TextLaws.{text_read}
use Rattle.filter_rule.proofs.json.text.Goals as goal

pub returns-in-Some : goal.returns-in-Some
returns-in-Some c = text_read (view c.args.value.now) c.in-Some.text.now c.in_utf8.result.now c.in-Some.ensures c.in_utf8.ensures
