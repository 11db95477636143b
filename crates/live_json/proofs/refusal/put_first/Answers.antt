use Rattle.serde_json.specs.Data.{string}
use Rattle.live_json.specs.Answers.{RefusalValue, count_data, key_data}
use Rattle.live_json.specs.Private.Parts.{before_text, refusal_value}
use Rattle.std.specs.Prelude.{codes}
use Rattle.json_pieces.proofs.TellLaws.{then_tells}
use Rattle.live_json.proofs.refusal.put_first.Goals as goal

pub returns : goal.returns
returns g c =
    let refusal : RefusalValue = refusal_value c.args.refusal.now in
    then_tells _ _ _ (before_text (codes "cause") count_data refusal.cause) _ c.put_count_before.ensures
    (then_tells _ _ _ (before_text (codes "file") string refusal.file) _ c.put_name_before.ensures
    (then_tells _ _ _ (before_text (codes "group") count_data refusal.group) (before_text (codes "key") key_data refusal.key) c.put_count_before-2.ensures c.put_key_before.ensures))
