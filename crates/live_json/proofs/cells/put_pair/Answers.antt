use Rattle.std.proofs.Common.{◌/◌, ◌%◌, [], ◌∷◌, slice_index, sym}
use Rattle.hex.specs.Hex.{encode_with, lower_digits}
use Rattle.json.specs.Print.{escape}
use Rattle.json_pieces.proofs.TellLaws.{same_text, then_tells}
use Rattle.json_pieces.proofs.TextLaws.{escape-append}
use Rattle.live_json.proofs.cells.put_pair.Goals as goal

pub returns : goal.returns
unfolding encode_with
returns g c =
    let high = slice_index lower_digits (c.args.byte / 16) ∷ [] in
    let low = slice_index lower_digits (c.args.byte % 16) ∷ [] in
    same_text _ _ _ _ (sym (escape-append high low)) (then_tells _ _ _ (escape high) (escape low) c.put_digit.ensures c.put_digit-2.ensures)
