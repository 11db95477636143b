use Rattle.std.proofs.Common.{[], ◌∷◌, ap, drop, false, map, refl, sym}
use Rattle.std.proofs.lemmas.List.{drop_all}
use Rattle.std.proofs.lemmas.Simd.{map-map}
use Rattle.serde_json.specs.View.{items_of}
use Rattle.serde_json.specs.Written.{items_text}
use Rattle.check_said.specs.Json.{name_data}
use Rattle.json_pieces.proofs.TellLaws.{begins, moves, ends_by, same_text}
use Rattle.json_pieces.proofs.TextLaws.{item-at}
use Rattle.check_said.proofs.tables.put_names.Goals as goal

pub loop-name-init : goal.loop-name-init
loop-name-init g c = begins _ _ (91 ∷ []) (items_text false (items_of (map (λ name. name_data c.args.plan.now name.now) c.args.names.now))) c.put.ensures

pub loop-name-preserved : goal.loop-name-preserved
loop-name-preserved g c =
    moves _ _ _ _ _ _ _ refl
    (moves _ _ _ _ _ _ _ (item-at (λ name. name_data c.args.plan.now name.now) c.loop-name.later c.args.names.now c.loop-name.name-index _ c.loop-name-test.true) c.loop-name.invariant c.put_comma_if.ensures)
    c.put_name.ensures

pub returns : goal.returns
returns g c =
    same_text _ _ _ _ (ap (λ l. 91 ∷ items_text false (items_of l)) (sym (map-map (name_data c.args.plan.now) (λ name. name.now) c.args.names.now)))
    (ends_by _ _ _ _ _ (93 ∷ []) (ap (λ l. items_text c.loop-name.later (items_of (map (λ name. name_data c.args.plan.now name.now) l))) (drop_all c.loop-name.name-index c.args.names.now c.loop-name-test.false)) c.loop-name.invariant c.put-2.ensures)
