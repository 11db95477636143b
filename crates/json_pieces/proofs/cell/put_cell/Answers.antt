use Rattle.std.proofs.Common.{[], ◌∷◌, ◌++◌}
use Rattle.hex.specs.Hex.{encode_lower}
use Rattle.json.specs.Print.{escape, escape_byte}
use Rattle.json_pieces.proofs.TellLaws.{then_tells}
use Rattle.json_pieces.proofs.cell.put_cell.Goals as goal

pub returns : goal.returns
unfolding escape_byte
returns g c =
    let text = escape (encode_lower c.args.bytes.now) in
    then_tells _ _ _ (34 ∷ 120 ∷ []) (text ++ 34 ∷ []) c.put.ensures (then_tells _ _ _ text (34 ∷ []) c.put_hex.ensures c.put-2.ensures)
