use Rattle.std.proofs.Common.{map}
use Rattle.json_pieces.specs.Pieces.{list_data}
use Rattle.live_json.specs.Answers.{changes_at, change_data, stream_data}
use Rattle.live_json.specs.Private.Parts.{stream_value}
use Rattle.std.specs.Prelude.{codes}
use Rattle.json.specs.Print.{escape_byte}
use Rattle.serde_json.specs.Written.{compact_text}
use Rattle.json_pieces.proofs.TellLaws.{then_tells}
use Rattle.live_json.proofs.changes.put_changes.Goals as goal

pub returns : goal.returns
unfolding escape_byte
returns g c =
    then_tells _ _ _ (codes "{\"changes\":") _ c.put.ensures
    (then_tells _ _ _ (compact_text (list_data (change_data c.args.tables.now) (changes_at c.args.rows.now.entries c.args.keys.now.keys))) _ c.put_touched.ensures
    (then_tells _ _ _ (codes ",\"streams\":") _ c.put-2.ensures
    (then_tells _ _ _ (compact_text (list_data stream_data (map stream_value c.args.streams.now))) (codes "}") c.put_streams.ensures c.put-3.ensures)))
