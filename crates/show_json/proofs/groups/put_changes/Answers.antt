use Rattle.std.proofs.Common.{[], ◌∷◌, ap, false, map, refl}
use Rattle.serde_json.specs.View.{items_of}
use Rattle.serde_json.specs.Written.{items_text}
use Rattle.json_pieces.proofs.TellLaws.{begins, moves, ends_by}
use Rattle.show_json.specs.Private.Kept.{columns_in}
use Rattle.show_json.specs.Text.{change_data}
use Rattle.show_json.proofs.groups.put_changes.Goals as goal

pub loop-change-init : goal.loop-change-init
loop-change-init g c =
    rw c.into_iter-change-iterator.ensures.into_iter_gives (begins _ _ (91 ∷ []) (items_text false (items_of (map (change_data (columns_in c.args.tables.now)) c.args.changes))) c.put.ensures)

pub loop-change-preserved : goal.loop-change-preserved
loop-change-preserved g c =
    let parts = ap (λ l. items_text c.loop-change.later (items_of (map (change_data (columns_in c.args.tables.now)) l))) c.in-Some.ensures.steps in
    moves _ _ _ _ _ _ _ refl (moves _ _ _ _ _ _ _ parts c.loop-change.invariant c.put_comma_if.ensures) c.put_change.ensures

pub returns : goal.returns
returns g c =
    ends_by _ _ _ _ _ (93 ∷ []) (ap (λ l. items_text c.loop-change.later (items_of (map (change_data (columns_in c.args.tables.now)) l))) c.in-None.ensures.steps.0) c.loop-change.invariant c.put-2.ensures
