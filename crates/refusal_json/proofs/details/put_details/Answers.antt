use Rattle.std.proofs.Common.{[], ◌∷◌, ◌++◌, false, option_map}
use Rattle.std.specs.Prelude.{is_some}
use Rattle.json_pieces.proofs.TellLaws.{same_text, then_tells}
use Rattle.refusal_json.specs.Details.{detail_value}
use Rattle.refusal_json.specs.Private.Parts.{member_if}
use Rattle.refusal_json.proofs.TextLaws.{details-text}
use Rattle.refusal_json.proofs.details.put_details.Goals as goal

pub returns : goal.returns
returns g c =
    let details = c.args.details.now in
    same_text _ _ _ _ (details-text details.first details.second)
    (then_tells _ _ _ (123 ∷ []) (member_if false (option_map detail_value details.first) ++ (member_if (is_some details.first) (option_map detail_value details.second) ++ 125 ∷ [])) c.put.ensures
    (then_tells _ _ _ (member_if false (option_map detail_value details.first)) (member_if (is_some details.first) (option_map detail_value details.second) ++ 125 ∷ []) (rw c.as_ref.ensures.value at c.put_detail_if.ensures)
    (then_tells _ _ _ (member_if (is_some details.first) (option_map detail_value details.second)) (125 ∷ []) (rw (c.is_some.ensures, c.as_ref-2.ensures.value) at c.put_detail_if-2.ensures) c.put-2.ensures)))
