use Rattle.live_json.specs.Answers.{count_data}
use Rattle.std.specs.Prelude.{codes}
use Rattle.json.specs.Print.{escape_byte}
use Rattle.serde_json.specs.Written.{compact_text}
use Rattle.json_pieces.proofs.TellLaws.{then_tells}
use Rattle.live_json.proofs.line.put_saved.Goals as goal

pub returns : goal.returns
unfolding escape_byte
returns g c =
    then_tells _ _ _ (codes "{\"bytes\":") _ c.put.ensures
    (then_tells _ _ _ (compact_text (count_data c.args.bytes)) (codes "}") c.put_count.ensures c.put-2.ensures)
