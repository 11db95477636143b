use Rattle.std.proofs.Common.{[], ◌∷◌, ap, false, map, refl}
use Rattle.serde_json.specs.View.{items_of}
use Rattle.serde_json.specs.Written.{items_text}
use Rattle.json_pieces.proofs.TellLaws.{begins, moves, ends_by}
use Rattle.live_json.specs.Answers.{Rows, all_changes, change_data}
use Rattle.live_json.proofs.changes.put_all.Goals as goal

pub loop-key-init : goal.loop-key-init
loop-key-init g c =
    rw (c.into_iter-key-iterator.ensures.into_iter_gives, c.iter-key-items.ensures.entries) (begins _ _ (91 ∷ []) (items_text false (items_of (map (change_data c.args.tables.now) (all_changes c.args.rows.now.entries)))) c.put.ensures)

pub loop-key-preserved : goal.loop-key-preserved
loop-key-preserved g c =
    let parts = ap (λ (l : Rows). items_text c.loop-key.later (items_of (map (change_data c.args.tables.now) (all_changes l)))) c.in-Some.ensures.steps in
    moves _ _ _ _ _ _ _ refl (moves _ _ _ _ _ _ _ parts c.loop-key.invariant c.put_comma_if.ensures) c.put_change.ensures

pub returns : goal.returns
returns g c =
    ends_by _ _ _ _ _ (93 ∷ []) (ap (λ (l : Rows). items_text c.loop-key.later (items_of (map (change_data c.args.tables.now) (all_changes l)))) c.in-None.ensures.steps.0) c.loop-key.invariant c.put-2.ensures
