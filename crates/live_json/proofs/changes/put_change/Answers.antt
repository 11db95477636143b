use Rattle.std.proofs.Common.{◌∙◌, ap}
use Rattle.std.specs.Option.{option_map}
use Rattle.filter_rule.specs.PlanTable.{name_of_table}
use Rattle.json.specs.Print.{quoted}
use Rattle.target_tables.specs.Contents.{standing}
use Rattle.live_json.specs.Answers.{key_data, row_there, stream_there}
use Rattle.std.specs.Prelude.{codes}
use Rattle.json.specs.Print.{escape_byte}
use Rattle.serde_json.specs.Written.{compact_text}
use Rattle.json_pieces.proofs.TellLaws.{same_text, then_tells}
use Rattle.live_json.proofs.changes.put_change.Goals as goal

pub returns : goal.returns
unfolding escape_byte
returns g c =
    let key = c.args.key.now in
    let there = option_map standing c.args.there in
    let name = ap quoted (c.name_of_table.ensures ∙ ap (name_of_table c.args.tables.now) c.table.ensures) in
    then_tells _ _ _ (codes "{\"key\":") _ c.put.ensures
    (then_tells _ _ _ (compact_text (key_data key)) _ c.put_key.ensures
    (then_tells _ _ _ (codes ",\"row\":") _ c.put-2.ensures
    (then_tells _ _ _ (compact_text (row_there there)) _ c.put_row_there.ensures
    (then_tells _ _ _ (codes ",\"stream\":") _ c.put-3.ensures
    (then_tells _ _ _ (compact_text (stream_there there)) _ c.put_stream_there.ensures
    (then_tells _ _ _ (codes ",\"table\":") _ c.put-4.ensures
    (then_tells _ _ _ (quoted (name_of_table c.args.tables.now key.table)) (codes "}") (same_text _ _ _ _ name c.put_name.ensures) c.put-5.ensures)))))))
