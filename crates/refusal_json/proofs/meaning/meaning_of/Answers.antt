use Rattle.std.proofs.Common.{◌∙◌, ap}
use Rattle.refusal_json.specs.Refusal.{meaning_in}
use Rattle.refusal_json.proofs.meaning.meaning_of.Goals as goal

pub returns : goal.returns
returns c = c.meaning_in.ensures ∙ ap meaning_in c.explained.ensures
