use Rattle.std.proofs.Common.{ap}
use Rattle.json.specs.Print.{quoted}
use Rattle.live_json.specs.Answers.{CopiedValue, mark_key, mark_word}
use Rattle.live_json.specs.Private.Parts.{copied_value}
use Rattle.std.specs.Prelude.{codes}
use Rattle.json.specs.Print.{escape_byte}
use Rattle.serde_json.specs.Written.{compact_text}
use Rattle.json_pieces.proofs.TellLaws.{same_text, then_tells}
use Rattle.live_json.proofs.streams.put_copied.Goals as goal

pub returns : goal.returns
unfolding escape_byte
returns g c =
    let table : CopiedValue = copied_value c.args.table.now in
    then_tells _ _ _ (codes "{\"key\":") _ c.put.ensures
    (then_tells _ _ _ (compact_text (mark_key table.mark)) _ c.put_mark_key.ensures
    (then_tells _ _ _ (codes ",\"table\":") _ c.put-2.ensures
    (then_tells _ _ _ (quoted table.table) _ c.put_name.ensures
    (then_tells _ _ _ (codes ",\"what\":") _ c.put-3.ensures
    (then_tells _ _ _ (quoted (mark_word table.mark)) (codes "}") (same_text _ _ _ _ (ap quoted c.mark_word.ensures) c.put_name-2.ensures) c.put-4.ensures)))))
