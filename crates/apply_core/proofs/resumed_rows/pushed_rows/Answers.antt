use Rattle.std.proofs.Common.{◌∙◌, ◌++◌, ◌∷◌, [], sym, ap, subst}
use Rattle.std.specs.Vec.Iter.{into_iter_items}
use Rattle.list_laws.proofs.Walks.{turn}
use Rattle.pk_copy.specs.KeyOrder.{key_cmp}
use Rattle.target_tables.specs.Rising.{AreBelow}
use Rattle.source_feed.specs.History.{RowValue}
use Rattle.apply_core.proofs.FirstRowsLaws.{below_taken, first_more}
use Rattle.apply_core.proofs.resumed_rows.pushed_rows.Goals as goal

pub push-requires : goal.push-requires
push-requires c =
    subst (AreBelow key_cmp c.in-Some.key) (sym c.loop-key.invariant.0)
    (below_taken c.loop-key.yielded (into_iter_items c.loop-key.key-iterator) (into_iter_items c.next.new.self) c.args.rows.items (c.in-Some.key, c.in-Some.row) c.in-Some.ensures.steps.0 c.loop-key.invariant.1 c.requires)

pub loop-key-preserved : goal.loop-key-preserved
loop-key-preserved c = (
  first_more c.loop-key.yielded (c.in-Some.key, c.in-Some.row) c.loop-key.pushed.entries c.push.new.self.entries c.loop-key.invariant.0
      (c.in_ok-push.ensures.pushed ∙ ap (λ (row : RowValue). c.loop-key.pushed.entries ++ (c.in-Some.key, (0, row)) ∷ []) c.in_ok-copy.ensures),
  turn c.loop-key.yielded (into_iter_items c.next.new.self) c.args.rows.items ((c.in-Some.key, c.in-Some.row) ∷ []) (into_iter_items c.loop-key.key-iterator) c.loop-key.invariant.1 c.in-Some.ensures.steps.0,
)
