use Rattle.std.proofs.Common.{◌∙◌, ◌∷◌, [], ◌++◌, map, sym, ap}
use Rattle.std.proofs.lemmas.List.{map-append}
use Rattle.source_feed.specs.Image.{ImageRows, lent_row}
use Rattle.apply_core.specs.Shown.{rows_of_stream}
use Rattle.apply_core.proofs.ShowLaws.{Lent, walk_begins, walk_ends, walk_on, more-own, more-other}
use Rattle.apply_core.proofs.saving.own_rows.Goals as goal

pub loop-key-init : goal.loop-key-init
loop-key-init c = (walk_begins _ _ c.iter-key-items.ensures.rising (c.into_iter-key-iterator.ensures.into_iter_gives ∙ c.iter-key-items.ensures.entries), ap (map lent_row) c.new-own.ensures.items)

pub loop-key-preserved-in-Continue-1 : goal.loop-key-preserved-in-Continue-1
loop-key-preserved-in-Continue-1 c =
    let next : Lent = (c.in-Some.key, c.in-Some.owner, c.in-Some.row) in (
      walk_on _ _ c.next.new.self c.loop-key.yielded next c.loop-key.invariant.0 c.in-Some.ensures.steps,
      ap (map lent_row) c.in_ok-push.ensures.items
          ∙ map-append lent_row c.loop-key.own.items _
          ∙ ap (λ (rows : ImageRows). rows ++ (c.in-Some.key.now, c.in-Some.row.now) ∷ []) c.loop-key.invariant.1
          ∙ sym (more-own c.args.s c.loop-key.yielded next c.if-owner-s.true),
    )

pub loop-key-preserved : goal.loop-key-preserved
loop-key-preserved c =
    let next : Lent = (c.in-Some.key, c.in-Some.owner, c.in-Some.row) in (
      walk_on _ _ c.next.new.self c.loop-key.yielded next c.loop-key.invariant.0 c.in-Some.ensures.steps,
      c.loop-key.invariant.1 ∙ sym (more-other c.args.s c.loop-key.yielded next c.if-owner-s.false),
    )

pub returns : goal.returns
returns c = c.loop-key.invariant.1 ∙ ap (rows_of_stream c.args.s) (walk_ends _ _ c.loop-key.yielded c.loop-key.invariant.0 c.in-None.ensures.steps.0)
