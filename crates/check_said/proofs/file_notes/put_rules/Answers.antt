use Rattle.std.proofs.Common.{[], ◌∷◌, ap, drop, false, map, refl}
use Rattle.std.proofs.lemmas.List.{drop_all}
use Rattle.serde_json.specs.View.{items_of}
use Rattle.serde_json.specs.Written.{items_text}
use Rattle.check_said.specs.Json.{passed_data}
use Rattle.json_pieces.proofs.TellLaws.{begins, moves, ends_by}
use Rattle.json_pieces.proofs.TextLaws.{item-of}
use Rattle.check_said.proofs.file_notes.put_rules.Goals as goal

pub loop-rule-init : goal.loop-rule-init
loop-rule-init g c = begins _ _ (91 ∷ []) (items_text false (items_of (map (passed_data) c.args.rules.now))) c.put.ensures

pub loop-rule-preserved : goal.loop-rule-preserved
loop-rule-preserved g c =
    moves _ _ _ _ _ _ _ refl
    (moves _ _ _ _ _ _ _ (item-of (passed_data) c.loop-rule.later c.args.rules.now c.loop-rule.rule-index c.rule-item.result c.loop-rule-test.true c.rule-item.is) c.loop-rule.invariant c.put_comma_if.ensures)
    c.put_rule.ensures

pub returns : goal.returns
returns g c =
    ends_by _ _ _ _ _ (93 ∷ []) (ap (λ l. items_text c.loop-rule.later (items_of (map (passed_data) l))) (drop_all c.loop-rule.rule-index c.args.rules.now c.loop-rule-test.false)) c.loop-rule.invariant c.put-2.ensures
