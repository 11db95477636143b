use Rattle.std.proofs.Common.{◌∙◌, map, sym, ap, subst, refl, arith}
use Rattle.std.specs.Prelude.{IfSome}
use Rattle.board_laws.proofs.Lookups.{all-at}
use Rattle.apply_core.specs.Private.Changes.{Change, IsOfTable, AreOfTables, lent_change}
use Rattle.apply_core.proofs.PutLaws.{of_table_if}
use Rattle.apply_core.proofs.StreamLaws.{item_at}
use Rattle.apply_core.proofs.puts.owned_changes.Goals as goal

pub owned-requires : goal.owned-requires
owned-requires c =
    let items = c.deref-key-items.result.now in
    let are = ap (map lent_change) (c.deref-key-items.ensures.value ∙ c.reverse.ensures.items) in
    let of = subst (AreOfTables c.args.plan.now) (sym are) c.requires in
    let at = all-at (λ (change : Change). IfSome change.1 (IsOfTable c.args.plan.now change.0)) (map lent_change items) c.loop-key.key-index (lent_change c.loop-key-item.result) of
    (item_at lent_change items c.loop-key.key-index c.loop-key-item.result (lent_change c.loop-key-item.result) (omega (arith, c.loop-key-test.true)) c.loop-key-item.is refl) in
    of_table_if c.args.plan.now c.loop-key-item.result.0.now _ _ c.as_ref.ensures.value at
