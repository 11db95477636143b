use Rattle.std.specs.Option.{option_map}
use Rattle.target_tables.specs.Contents.{standing}
use Rattle.live_json.specs.Answers.{row_there, stream_there}
use Rattle.std.specs.Prelude.{codes}
use Rattle.json.specs.Print.{escape_byte}
use Rattle.serde_json.specs.Written.{compact_text}
use Rattle.json_pieces.proofs.TellLaws.{then_tells}
use Rattle.live_json.proofs.rows.put_found.Goals as goal

pub returns : goal.returns
unfolding escape_byte
returns g c =
    let there = option_map standing c.args.there in
    then_tells _ _ _ (codes "{\"row\":") _ c.put.ensures
    (then_tells _ _ _ (compact_text (row_there there)) _ c.put_row_there.ensures
    (then_tells _ _ _ (codes ",\"stream\":") _ c.put-2.ensures
    (then_tells _ _ _ (compact_text (stream_there there)) (codes "}") c.put_stream_there.ensures c.put-3.ensures)))
