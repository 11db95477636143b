use Rattle.std.proofs.Common.{◌≡◌, ◌∙◌, ◌∷◌, [], ◌++◌, map, sym, ap, subst}
use Rattle.pk_copy.specs.KeyOrder.{key_cmp}
use Rattle.pk_copy.specs.KeyValue.{KeyValue}
use Rattle.target_tables.specs.Contents.{entry}
use Rattle.target_tables.specs.Rising.{AreBelow}
use Rattle.dump.specs.DumpRowsValue.{DumpRowsValue}
use Rattle.apply_core.specs.Shown.{rows_of_stream}
use Rattle.apply_core.proofs.ShowLaws.{Lent, walk_begins, walk_ends, walk_on, behind_seen, behind_own, more-own, more-other}
use Rattle.apply_core.proofs.showing.copies_of_own.Goals as goal

pub loop-key-init : goal.loop-key-init
loop-key-init c = (walk_begins _ _ c.iter-key-items.ensures.rising (c.into_iter-key-iterator.ensures.into_iter_gives ∙ c.iter-key-items.ensures.entries), c.new-copies.ensures)

pub push-requires : goal.push-requires
push-requires c =
    let next : Lent = (c.in-Some.key, c.in-Some.owner, c.in-Some.row) in
    let behind = behind_seen _ _ c.next.new.self c.loop-key.yielded next c.loop-key.invariant.0 c.in-Some.ensures.steps in
    subst (λ (copies : DumpRowsValue). AreBelow key_cmp c.in_ok-try_clone.field-0 copies) (sym c.loop-key.invariant.1)
    (subst (λ (key : KeyValue). AreBelow key_cmp key (rows_of_stream c.args.s (map entry c.loop-key.yielded))) (sym c.in_ok-try_clone.ensures)
    (behind_own c.in-Some.key.now c.args.s (map entry c.loop-key.yielded) behind))

pub loop-key-preserved-in_ok-push : goal.loop-key-preserved-in_ok-push
loop-key-preserved-in_ok-push c =
    let next : Lent = (c.in-Some.key, c.in-Some.owner, c.in-Some.row) in
    let pushed : c.push.new.self ≡ c.loop-key.copies ++ (c.in-Some.key.now, c.in-Some.row.now) ∷ [] =
    rw (← c.in_ok-try_clone.ensures, ← c.in_ok-try_clone-2.ensures) c.in_ok-push.ensures.ok in (
      walk_on _ _ c.next.new.self c.loop-key.yielded next c.loop-key.invariant.0 c.in-Some.ensures.steps,
      pushed ∙ ap (λ (copies : DumpRowsValue). copies ++ (c.in-Some.key.now, c.in-Some.row.now) ∷ []) c.loop-key.invariant.1
          ∙ sym (more-own c.args.s c.loop-key.yielded next c.if-owner-s.true),
    )

pub loop-key-preserved : goal.loop-key-preserved
loop-key-preserved c =
    let next : Lent = (c.in-Some.key, c.in-Some.owner, c.in-Some.row) in (
      walk_on _ _ c.next.new.self c.loop-key.yielded next c.loop-key.invariant.0 c.in-Some.ensures.steps,
      c.loop-key.invariant.1 ∙ sym (more-other c.args.s c.loop-key.yielded next c.if-owner-s.false),
    )

pub returns : goal.returns
returns c = c.loop-key.invariant.1 ∙ ap (rows_of_stream c.args.s) (walk_ends _ _ c.loop-key.yielded c.loop-key.invariant.0 c.in-None.ensures.steps.0)
