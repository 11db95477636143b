use Rattle.std.proofs.Common.{◌∙◌, ap}
use Rattle.std.specs.Prelude.{◌==◌}
use Rattle.std.specs.List.{after_first}
use Rattle.std.specs.Str.{trim}
use Rattle.refusal_json.proofs.meaning.meaning_in.Goals as goal

pub returns : goal.returns
returns c = c.trim.ensures.trim ∙ ap trim (c.behind_space.ensures ∙ ap (after_first (λ b. b == 32)) c.first_line.ensures)
