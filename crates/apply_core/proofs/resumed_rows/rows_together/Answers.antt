use Rattle.std.proofs.Common.{◌≡◌, ◌∙◌, ◌<◌, ◌≤◌, ◌+◌, ◌∷◌, [], Some, length, slice_get, refl, sym, ap, subst, arith}
use Rattle.std.proofs.lemmas.List.{length_push}
use Rattle.std.proofs.lemmas.Option.{slice_get_within}
use Rattle.std.specs.Vec.Iter.{into_iter_items}
use Rattle.list_laws.proofs.Walks.{turn}
use Rattle.pk_copy.specs.KeyOrder.{key_cmp}
use Rattle.target_tables.specs.Rising.{IsRising}
use Rattle.apply_core.proofs.FirstRowsLaws.{none_together}
use Rattle.apply_core.proofs.ResumeLaws.{all_together, stands_behind}
use Rattle.apply_core.proofs.resumed_rows.rows_together.Goals as goal

pub loop-one-init : goal.loop-one-init
loop-one-init c = (refl, none_together c.args.streams.now c.new-rows.result.entries c.new-rows.ensures, c.into_iter-one-iterator.ensures.into_iter_gives.0, omega (arith, c.into_iter-one-iterator.ensures.into_iter_gives.1))

pub put_saved-requires-clause-here : goal.put_saved-requires-clause-here
put_saved-requires-clause-here c =
    let there = stands_behind c.loop-one.yielded (into_iter_items c.loop-one.one-iterator) (into_iter_items c.next.new.self) c.args.saved.items c.in-Some.one c.in-Some.ensures.steps.0 c.loop-one.invariant.2 in
    let inside : length c.loop-one.yielded < length c.args.saved.items = slice_get_within c.args.saved.items (length c.loop-one.yielded) c.in-Some.one there in
    omega (arith, inside, c.requires.count, c.loop-one.invariant.0)

pub put_saved-requires-clause-agree : goal.put_saved-requires-clause-agree
put_saved-requires-clause-agree c = λ state here.
    let there = stands_behind c.loop-one.yielded (into_iter_items c.loop-one.one-iterator) (into_iter_items c.next.new.self) c.args.saved.items c.in-Some.one c.in-Some.ensures.steps.0 c.loop-one.invariant.2 in
    c.into_rows.ensures ∙ c.requires.agree c.loop-one.s c.in-Some.one state (subst (λ n. slice_get c.args.saved.items n ≡ Some c.in-Some.one) (sym c.loop-one.invariant.0) there) here

pub put_saved-requires-clause-rising : goal.put_saved-requires-clause-rising
put_saved-requires-clause-rising c =
    let there = stands_behind c.loop-one.yielded (into_iter_items c.loop-one.one-iterator) (into_iter_items c.next.new.self) c.args.saved.items c.in-Some.one c.in-Some.ensures.steps.0 c.loop-one.invariant.2 in
    subst (IsRising key_cmp) (sym c.into_rows.ensures) (c.requires.rising (length c.loop-one.yielded) c.in-Some.one there)

pub loop-one-preserved : goal.loop-one-preserved
loop-one-preserved c = (
  ap (λ n. n + 1) c.loop-one.invariant.0 ∙ sym (length_push c.loop-one.yielded c.in-Some.one),
  c.in_ok-put_saved.ensures.ok,
  turn c.loop-one.yielded (into_iter_items c.next.new.self) c.args.saved.items (c.in-Some.one ∷ []) (into_iter_items c.loop-one.one-iterator) c.loop-one.invariant.2 c.in-Some.ensures.steps.0,
  omega (arith, length_push c.loop-one.yielded c.in-Some.one, c.in-Some.ensures.steps.1, c.loop-one.invariant.3),
)

pub returns-clause-ok : goal.returns-clause-ok
returns-clause-ok c =
    let most : length c.args.streams.now ≤ c.loop-one.s = omega (arith, c.in-None.ensures.steps.0, c.loop-one.invariant.3, c.requires.count, c.loop-one.invariant.0) in
    all_together c.args.streams.now c.loop-one.s c.loop-one.rows.entries most c.loop-one.invariant.1
