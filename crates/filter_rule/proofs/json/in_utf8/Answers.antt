use Rattle.filter_rule.proofs.TextLaws.{utf8_text}
use Rattle.filter_rule.proofs.json.in_utf8.Goals as goal

pub returns : goal.returns
returns c = utf8_text c.args.text.now c.utf8.text
