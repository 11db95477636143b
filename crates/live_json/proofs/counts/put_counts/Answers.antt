use Rattle.std.proofs.Common.{map}
use Rattle.json_pieces.specs.Pieces.{list_data}
use Rattle.live_json.specs.Answers.{table_counts_data}
use Rattle.live_json.specs.Private.Parts.{counts_value}
use Rattle.std.specs.Prelude.{codes}
use Rattle.json.specs.Print.{escape_byte}
use Rattle.serde_json.specs.Written.{compact_text}
use Rattle.json_pieces.proofs.TellLaws.{then_tells}
use Rattle.live_json.proofs.counts.put_counts.Goals as goal

pub returns : goal.returns
unfolding escape_byte
returns g c =
    then_tells _ _ _ (codes "{\"tables\":") _ c.put.ensures
    (then_tells _ _ _ (compact_text (list_data table_counts_data (map counts_value c.args.tables.now))) (codes "}") c.put_tables.ensures c.put-2.ensures)
