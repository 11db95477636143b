use Rattle.std.proofs.Common.{[], ◌∷◌, ap, drop, false, map, refl}
use Rattle.std.proofs.lemmas.List.{drop_all}
use Rattle.serde_json.specs.View.{items_of}
use Rattle.serde_json.specs.Written.{items_text}
use Rattle.check_said.specs.Json.{skipped_data}
use Rattle.json_pieces.proofs.TellLaws.{begins, moves, ends_by}
use Rattle.json_pieces.proofs.TextLaws.{item-of}
use Rattle.check_said.proofs.changes.put_events.Goals as goal

pub loop-event-init : goal.loop-event-init
loop-event-init g c = begins _ _ (91 ∷ []) (items_text false (items_of (map (skipped_data) c.args.events.now))) c.put.ensures

pub loop-event-preserved : goal.loop-event-preserved
loop-event-preserved g c =
    moves _ _ _ _ _ _ _ refl
    (moves _ _ _ _ _ _ _ (item-of (skipped_data) c.loop-event.later c.args.events.now c.loop-event.event-index c.event-item.result c.loop-event-test.true c.event-item.is) c.loop-event.invariant c.put_comma_if.ensures)
    c.put_event.ensures

pub returns : goal.returns
returns g c =
    ends_by _ _ _ _ _ (93 ∷ []) (ap (λ l. items_text c.loop-event.later (items_of (map (skipped_data) l))) (drop_all c.loop-event.event-index c.args.events.now c.loop-event-test.false)) c.loop-event.invariant c.put-2.ensures
