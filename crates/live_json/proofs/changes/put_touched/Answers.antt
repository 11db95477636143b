use Rattle.std.proofs.Common.{[], ◌∷◌, List, ap, false, map, refl}
use Rattle.pk_copy.specs.KeyValue.{KeyValue}
use Rattle.serde_json.specs.View.{items_of}
use Rattle.serde_json.specs.Written.{compact_text, items_text}
use Rattle.json_pieces.proofs.TellLaws.{begins, moves, ends_by, same_text}
use Rattle.live_json.specs.Answers.{Standing, changes_at, change_data}
use Rattle.live_json.proofs.changes.put_touched.Goals as goal

pub loop-key-init : goal.loop-key-init
loop-key-init g c =
    rw (c.into_iter-key-iterator.ensures.into_iter_gives, c.iter-key-items.ensures.rest)
    (begins _ _ (91 ∷ []) (items_text false (items_of (map (change_data c.args.tables.now) (changes_at c.args.rows.now.entries c.args.keys.now.keys)))) c.put.ensures)

pub loop-key-preserved : goal.loop-key-preserved
loop-key-preserved g c =
    let parts = ap (λ (l : List KeyValue). items_text c.loop-key.later (items_of (map (change_data c.args.tables.now) (changes_at c.args.rows.now.entries l)))) c.in-Some.ensures.steps in
    let there = ap (λ (s : Standing). compact_text (change_data c.args.tables.now (c.in-Some.key.now, s))) c.get.ensures in
    moves _ _ _ _ _ _ _ refl (moves _ _ _ _ _ _ _ parts c.loop-key.invariant c.put_comma_if.ensures) (same_text _ _ _ _ there c.put_change.ensures)

pub returns : goal.returns
returns g c =
    ends_by _ _ _ _ _ (93 ∷ []) (ap (λ (l : List KeyValue). items_text c.loop-key.later (items_of (map (change_data c.args.tables.now) (changes_at c.args.rows.now.entries l)))) c.in-None.ensures.steps.0) c.loop-key.invariant c.put-2.ensures
