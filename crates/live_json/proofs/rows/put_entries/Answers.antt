use Rattle.std.proofs.Common.{ℕ, [], ◌∷◌, List, ap, arith, false, map, refl}
use Rattle.std.proofs.lemmas.List.{drop_all}
use Rattle.list_laws.proofs.Walks.{at_item}
use Rattle.serde_json.specs.View.{items_of}
use Rattle.serde_json.specs.Written.{items_text}
use Rattle.json_pieces.proofs.TellLaws.{begins, moves, ends_by}
use Rattle.target_tables.specs.Contents.{entry}
use Rattle.live_json.specs.Answers.{entry_data}
use Rattle.std.specs.Borrow.{Bor}
use Rattle.pk_copy.specs.KeyValue.{KeyValue}
use Rattle.row_view.specs.Row.{RowValue}
use Rattle.live_json.proofs.rows.put_entries.Goals as goal

pub loop-key-init : goal.loop-key-init
loop-key-init g c = begins _ _ (91 ∷ []) (items_text false (items_of (map entry_data (map entry c.args.entries.now)))) c.put.ensures

pub loop-key-preserved : goal.loop-key-preserved
loop-key-preserved g c =
    let parts = ap (λ (l : List (Bor KeyValue × ℕ × Bor RowValue)). items_text c.loop-key.later (items_of (map entry_data (map entry l)))) (at_item c.args.entries.now c.loop-key.key-index c.loop-key-item.result (omega (arith, c.loop-key-test.true)) c.loop-key-item.is) in
    moves _ _ _ _ _ _ _ refl (moves _ _ _ _ _ _ _ parts c.loop-key.invariant c.put_comma_if.ensures) c.put_entry.ensures

pub returns : goal.returns
returns g c =
    ends_by _ _ _ _ _ (93 ∷ []) (ap (λ (l : List (Bor KeyValue × ℕ × Bor RowValue)). items_text c.loop-key.later (items_of (map entry_data (map entry l)))) (drop_all c.loop-key.key-index c.args.entries.now c.loop-key-test.false)) c.loop-key.invariant c.put-2.ensures
