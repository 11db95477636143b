use Rattle.serde_json.specs.Data.{string}
use Rattle.live_json.specs.Answers.{RefusalValue, count_data}
use Rattle.live_json.specs.Private.Parts.{behind_text, refusal_value}
use Rattle.std.specs.Prelude.{codes}
use Rattle.json_pieces.proofs.TellLaws.{then_tells}
use Rattle.live_json.proofs.refusal.put_last.Goals as goal

pub returns : goal.returns
returns g c =
    let refusal : RefusalValue = refusal_value c.args.refusal.now in
    then_tells _ _ _ (behind_text (codes "owner") count_data refusal.owner) _ c.put_count_behind.ensures
    (then_tells _ _ _ (behind_text (codes "stream") count_data refusal.stream) _ c.put_count_behind-2.ensures
    (then_tells _ _ _ (behind_text (codes "table") string refusal.table) (behind_text (codes "type") count_data refusal.column_type) c.put_name_behind.ensures c.put_count_behind-3.ensures))
