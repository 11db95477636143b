use Rattle.std.specs.Prelude.{codes}
use Rattle.hex.specs.Hex.{encode_lower}
use Rattle.json.specs.Print.{escape}
use Rattle.json_pieces.proofs.TellLaws.{same_text, then_tells}
use Rattle.show_json.proofs.ValueLaws.{cell-text}
use Rattle.show_json.proofs.values.put_cell.Goals as goal

pub returns : goal.returns
returns g c =
    let bytes = c.args.bytes.now in
    same_text _ _ _ _ (cell-text bytes)
    (then_tells _ _ _ (codes "{\"bytes\":\"x") _ c.put.ensures (then_tells _ _ _ (escape (encode_lower bytes)) (codes "\"}") c.put_hex.ensures c.put-2.ensures))
