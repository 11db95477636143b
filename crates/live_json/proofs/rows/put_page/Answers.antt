use Rattle.std.proofs.Common.{map}
use Rattle.std.specs.Option.{option_copied}
use Rattle.target_tables.specs.Contents.{entry}
use Rattle.json_pieces.specs.Pieces.{list_data}
use Rattle.live_json.specs.Answers.{entry_data, key_data, or_null}
use Rattle.std.specs.Prelude.{codes}
use Rattle.json.specs.Print.{escape_byte}
use Rattle.serde_json.specs.Written.{compact_text}
use Rattle.json_pieces.proofs.TellLaws.{then_tells}
use Rattle.live_json.proofs.rows.put_page.Goals as goal

pub returns : goal.returns
unfolding escape_byte
returns g c =
    then_tells _ _ _ (codes "{\"next\":") _ c.put.ensures
    (then_tells _ _ _ (compact_text (or_null key_data (option_copied c.args.next))) _ c.put_key_or_null.ensures
    (then_tells _ _ _ (codes ",\"rows\":") _ c.put-2.ensures
    (then_tells _ _ _ (compact_text (list_data entry_data (map entry c.args.entries.now))) (codes "}") c.put_entries.ensures c.put-3.ensures)))
