use Rattle.std.proofs.Common.{◌∙◌, ap}
use Rattle.std.proofs.lemmas.Str.{is_utf8-from_IsUtf8}
use Rattle.json.specs.Print.{quoted}
use Rattle.json_pieces.proofs.TellLaws.{same_text}
use Rattle.show_json.proofs.ValueLaws.{no-utf8-data, text-data}
use Rattle.show_json.proofs.values.put_utf8.Goals as goal

pub returns-in-Ok : goal.returns-in-Ok
returns-in-Ok g c =
    same_text _ _ _ _ (ap quoted c.in-Ok.ensures.cases.0 ∙ text-data c.args.bytes.now c.requires (is_utf8-from_IsUtf8 c.args.bytes.now c.in-Ok.ensures.cases.1)) c.put_text.ensures

pub returns-in-Err : goal.returns-in-Err
returns-in-Err g c = same_text _ _ _ _ (no-utf8-data c.args.bytes.now c.requires c.in-Err.ensures.cases.0) c.put_cell.ensures
