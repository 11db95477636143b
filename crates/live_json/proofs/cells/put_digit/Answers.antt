use Rattle.std.proofs.Common.{◌∙◌, [], ◌∷◌, ℕ, ap}
use Rattle.json_pieces.proofs.TellLaws.{same_text}
use Rattle.live_json.proofs.CellLaws.{one-digit}
use Rattle.live_json.proofs.cells.put_digit.Goals as goal

pub returns : goal.returns
returns g c = same_text _ _ _ _ (ap (λ (x : ℕ). x ∷ []) c.digit.ensures ∙ one-digit c.args.value c.requires) c.put.ensures
