use Rattle.std.proofs.Common.{option_map}
use Rattle.std.specs.Prelude.{codes, decimal}
use Rattle.json.specs.Print.{escape_byte, quoted}
use Rattle.serde_json.specs.Data.{object}
use Rattle.serde_json.specs.Written.{compact_text}
use Rattle.json_pieces.proofs.TellLaws.{same_text, then_tells}
use Rattle.refusal_json.specs.Details.{details_members, details_value}
use Rattle.refusal_json.specs.Private.Parts.{place_part}
use Rattle.refusal_json.specs.Refusal.{meaning_of, place_data}
use Rattle.refusal_json.proofs.TextLaws.{refusal-text}
use Rattle.refusal_json.proofs.refusal.put_refusal.Goals as goal

pub returns : goal.returns
unfolding escape_byte
returns g c =
    let refused = c.args.number in
    let place = option_map (λ place. place.now) c.args.place in
    let details = compact_text (object (details_members (details_value c.args.details.now))) in
    same_text _ _ _ _ (refusal-text details (compact_text (place_data place)) (decimal refused) (quoted (meaning_of refused)))
    (then_tells _ _ _ (codes "{\"details\":") _ c.put.ensures
    (then_tells _ _ _ details (place_part refused place) c.put_details.ensures (same_text _ _ _ _ c.place_pieces.ensures c.put_pieces.ensures)))
