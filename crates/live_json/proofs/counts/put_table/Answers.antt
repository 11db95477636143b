use Rattle.std.proofs.Common.{List, ℕ, ap}
use Rattle.json.specs.Print.{quoted}
use Rattle.json_pieces.specs.Pieces.{list_data}
use Rattle.live_json.specs.Answers.{count_data}
use Rattle.std.specs.Prelude.{codes}
use Rattle.json.specs.Print.{escape_byte}
use Rattle.serde_json.specs.Written.{compact_text}
use Rattle.json_pieces.proofs.TellLaws.{same_text, then_tells}
use Rattle.live_json.proofs.counts.put_table.Goals as goal

pub returns : goal.returns
unfolding escape_byte
returns g c =
    then_tells _ _ _ (codes "{\"rows\":") _ c.put.ensures
    (then_tells _ _ _ (compact_text (list_data count_data c.args.table.now.rows.items)) _ (same_text _ _ _ _ (ap (λ (l : List ℕ). compact_text (list_data count_data l)) c.as_slice.ensures.value) c.put_numbers.ensures)
    (then_tells _ _ _ (codes ",\"table\":") _ c.put-2.ensures
    (then_tells _ _ _ (quoted c.args.table.now.table.now) (codes "}") c.put_name.ensures c.put-3.ensures)))
