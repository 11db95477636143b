use Rattle.std.proofs.Common.{sym}
use Rattle.json_pieces.proofs.TellLaws.{same_text}
use Rattle.show_json.proofs.ValueLaws.{no-text-data}
use Rattle.show_json.proofs.values.put_bytes.Goals as goal

pub returns-else-are_text_bytes : goal.returns-else-are_text_bytes
returns-else-are_text_bytes g c = same_text _ _ _ _ (no-text-data c.args.bytes.now (sym c.if-are_text_bytes.ensures)) c.put_cell.ensures
