use Rattle.json.specs.Print.{quoted}
use Rattle.serde_json.specs.Written.{compact_text}
use Rattle.live_json.specs.Answers.{RefusalValue, count_data}
use Rattle.live_json.specs.Private.Parts.{first_texts, last_texts, refusal_value}
use Rattle.std.specs.Prelude.{codes}
use Rattle.json_pieces.proofs.TellLaws.{same_text, then_tells}
use Rattle.live_json.proofs.TextLaws.{refusal-text}
use Rattle.live_json.proofs.refusal.put_refusal.Goals as goal

pub returns : goal.returns
returns g c =
    let refusal : RefusalValue = refusal_value c.args.refusal.now in
    same_text _ _ _ _ (refusal-text refusal)
    (then_tells _ _ _ (codes "{") _ c.put.ensures
    (then_tells _ _ _ (first_texts refusal) _ c.put_first.ensures
    (then_tells _ _ _ (codes "\"number\":") _ c.put-2.ensures
    (then_tells _ _ _ (compact_text (count_data refusal.refused)) _ c.put_count.ensures
    (then_tells _ _ _ (last_texts refusal) _ c.put_last.ensures
    (then_tells _ _ _ (codes ",\"words\":") _ c.put-3.ensures
    (then_tells _ _ _ (quoted refusal.words) (codes "}") c.put_name.ensures c.put-4.ensures)))))))
