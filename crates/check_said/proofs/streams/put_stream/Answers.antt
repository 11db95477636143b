use Rattle.std.proofs.Common.{◌≡◌, ◌∙◌, List, ℕ, ap, map}
use Rattle.filter_rule.specs.PlanValue.{PlanValue}
use Rattle.serde_json.specs.Written.{compact_text}
use Rattle.feed_check.specs.Checked.{CheckedValue}
use Rattle.feed_check.specs.Findings.{FindingValue}
use Rattle.feed_check.specs.Skipped.{SkippedValue}
use Rattle.json_pieces.specs.Pieces.{list_data}
use Rattle.json_pieces.proofs.TellLaws.{same_text, then_tells}
use Rattle.check_said.specs.Json.{finding_data, name_data, skipped_data, tables_data}
use Rattle.check_said.specs.Private.Parts.{first_part, groups_part, shard_part, stream_part}
use Rattle.check_said.proofs.JsonLaws.{stream-text}
use Rattle.check_said.proofs.streams.put_stream.Goals as goal

pub returns : goal.returns
returns g c =
    let check : CheckedValue = c.args.rows.now in
    let here : CheckedValue = c.check-check.result.now in
    let is : here ≡ check = c.check-check.ensures in
    let findings = ap (λ (l : List FindingValue). compact_text (list_data (finding_data here) l)) c.findings.ensures ∙ ap (λ (one : CheckedValue). compact_text (list_data (finding_data one) one.findings)) is in
    let moves = ap (λ (l : List FindingValue). compact_text (list_data (finding_data here) l)) c.moves.ensures ∙ ap (λ (one : CheckedValue). compact_text (list_data (finding_data one) one.moves)) is in
    let skipped = ap (λ (l : List SkippedValue). compact_text (list_data skipped_data l)) (c.skipped.ensures ∙ ap (λ (one : CheckedValue). one.skipped) is) in
    let names = ap (λ (plan : PlanValue). compact_text (list_data (name_data plan) (map (λ name. name.now) c.unknown.result.now))) (c.plan.ensures ∙ ap (λ (one : CheckedValue). one.plan) is)
    ∙ ap (λ (l : List (List ℕ)). compact_text (list_data (name_data check.plan) l)) (c.unknown.ensures ∙ ap (λ (one : CheckedValue). one.unknown) is) in
    same_text _ _ _ _ (stream-text c.args.i c.args.file.now check)
    (then_tells _ _ _ (first_part c.args.file.now) _ (same_text _ _ _ _ c.first_pieces.ensures c.put_pieces.ensures)
    (then_tells _ _ _ (compact_text (list_data (finding_data check) check.findings)) _ (same_text _ _ _ _ findings c.put_findings.ensures)
    (then_tells _ _ _ (groups_part check) _ (same_text _ _ _ _ (c.groups_pieces.ensures ∙ ap groups_part is) c.put_pieces-2.ensures)
    (then_tells _ _ _ (compact_text (list_data (finding_data check) check.moves)) _ (same_text _ _ _ _ moves c.put_findings-2.ensures)
    (then_tells _ _ _ (shard_part check) _ (same_text _ _ _ _ (c.shard_pieces.ensures ∙ ap shard_part is) c.put_pieces-3.ensures)
    (then_tells _ _ _ (compact_text (list_data skipped_data check.skipped)) _ (same_text _ _ _ _ skipped c.put_events.ensures)
    (then_tells _ _ _ (stream_part c.args.i) _ (same_text _ _ _ _ c.number_pieces.ensures c.put_pieces-4.ensures)
    (then_tells _ _ _ (compact_text (tables_data check)) _ c.put_tables.ensures
    (then_tells _ _ _ _ _ c.put.ensures
    (then_tells _ _ _ (compact_text (list_data (name_data check.plan) check.unknown)) _ (same_text _ _ _ _ names c.put_names.ensures)
    c.put-2.ensures))))))))))
