use Rattle.std.proofs.Common.{[], ◌∷◌, ap, drop, false, map, refl}
use Rattle.std.proofs.lemmas.List.{drop_all}
use Rattle.serde_json.specs.View.{items_of}
use Rattle.serde_json.specs.Written.{items_text}
use Rattle.check_said.specs.Json.{finding_data}
use Rattle.json_pieces.proofs.TellLaws.{begins, moves, ends_by}
use Rattle.json_pieces.proofs.TextLaws.{item-of}
use Rattle.check_said.proofs.changes.put_findings.Goals as goal

pub loop-found-init : goal.loop-found-init
loop-found-init g c = begins _ _ (91 ∷ []) (items_text false (items_of (map (finding_data c.args.check.now) c.args.findings.now))) c.put.ensures

pub loop-found-preserved : goal.loop-found-preserved
loop-found-preserved g c =
    moves _ _ _ _ _ _ _ refl
    (moves _ _ _ _ _ _ _ (item-of (finding_data c.args.check.now) c.loop-found.later c.args.findings.now c.loop-found.found-index c.found-item.result c.loop-found-test.true c.found-item.is) c.loop-found.invariant c.put_comma_if.ensures)
    c.put_finding.ensures

pub returns : goal.returns
returns g c =
    ends_by _ _ _ _ _ (93 ∷ []) (ap (λ l. items_text c.loop-found.later (items_of (map (finding_data c.args.check.now) l))) (drop_all c.loop-found.found-index c.args.findings.now c.loop-found-test.false)) c.loop-found.invariant c.put-2.ensures
