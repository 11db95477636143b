use Rattle.std.proofs.Common.{map}
use Rattle.json_pieces.specs.Pieces.{list_data}
use Rattle.live_json.specs.Answers.{count_data, stream_data}
use Rattle.live_json.specs.Private.Parts.{stream_value}
use Rattle.std.specs.Prelude.{codes}
use Rattle.json.specs.Print.{escape_byte}
use Rattle.serde_json.specs.Written.{compact_text}
use Rattle.json_pieces.proofs.TellLaws.{then_tells}
use Rattle.live_json.proofs.streams.put_more.Goals as goal

pub returns : goal.returns
unfolding escape_byte
returns g c =
    then_tells _ _ _ (codes "{\"bytes\":") _ c.put.ensures
    (then_tells _ _ _ (compact_text (count_data c.args.bytes)) _ c.put_count.ensures
    (then_tells _ _ _ (codes ",\"changes\":") _ c.put-2.ensures
    (then_tells _ _ _ (compact_text (count_data c.args.changes)) _ c.put_count-2.ensures
    (then_tells _ _ _ (codes ",\"streams\":") _ c.put-3.ensures
    (then_tells _ _ _ (compact_text (list_data stream_data (map stream_value c.args.streams.now))) (codes "}") c.put_streams.ensures c.put-4.ensures)))))
