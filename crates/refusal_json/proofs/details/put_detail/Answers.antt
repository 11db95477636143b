use Rattle.std.proofs.Common.{◌∙◌, List, ℕ, ◌∷◌, ◌++◌, append-nil, ap}
use Rattle.json.specs.Print.{quoted}
use Rattle.json_pieces.proofs.TellLaws.{same_text, then_tells}
use Rattle.refusal_json.proofs.details.put_detail.Goals as goal

pub returns : goal.returns
returns g c =
    let told = ap (λ (t : List ℕ). quoted c.args.detail.now.word.now ++ 58 ∷ t) (append-nil _ ∙ c.told_piece.ensures) in
    then_tells _ _ _ _ _ c.put_comma_if.ensures (same_text _ _ _ _ told c.put_pieces.ensures)
