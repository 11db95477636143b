use Rattle.std.proofs.Common.{append-nil}
use Rattle.json.specs.Print.{quoted}
use Rattle.json_pieces.proofs.TellLaws.{same_text}
use Rattle.show_json.proofs.values.put_text.Goals as goal

pub returns : goal.returns
returns g c = same_text _ _ _ _ (append-nil (quoted c.args.text.now)) c.put_pieces.ensures
