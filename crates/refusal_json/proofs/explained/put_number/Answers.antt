use Rattle.std.proofs.Common.{refl}
use Rattle.json_pieces.proofs.TellLaws.{same_text}
use Rattle.refusal_json.specs.Explained.{explained_data, listed_data, of_none, of_parts, parts_value}
use Rattle.refusal_json.specs.Refusal.{json_line}
use Rattle.refusal_json.proofs.explained.put_number.Goals as goal

pub returns-in-Some : goal.returns-in-Some
returns-in-Some g c =
    let parts = parts_value c.in-Some.parts in
    (json_line (explained_data c.args.number parts), of_parts parts (rw c.explained.ensures at c.in-Some.ensures) refl, same_text _ _ _ _ c.explained_pieces.ensures c.put_pieces.ensures)

pub returns-in-None : goal.returns-in-None
returns-in-None g c =
    (json_line (listed_data c.args.number), of_none (rw c.explained.ensures at c.in-None.ensures) refl, same_text _ _ _ _ c.listed_pieces.ensures c.put_pieces-in-None.ensures)
