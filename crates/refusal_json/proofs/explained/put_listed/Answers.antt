use Rattle.std.proofs.Common.{Bool, ap}
use Rattle.json_pieces.proofs.TellLaws.{same_text, tells_none}
use Rattle.refusal_json.specs.Explained.{line_if}
use Rattle.refusal_json.proofs.explained.put_listed.Goals as goal

pub returns-else-has_text : goal.returns-else-has_text
returns-else-has_text g c = same_text _ _ _ _ (ap (λ (t : Bool). line_if t c.args.number) c.if-has_text.ensures) (tells_none _)
