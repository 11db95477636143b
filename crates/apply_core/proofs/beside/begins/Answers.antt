use Rattle.std.proofs.Common.{◌≡◌, ◌<◌, arith, length, map, sym, subst, refl, Some, slice_get}
use Rattle.std.proofs.lemmas.Bool.{false≢true}
use Rattle.std.proofs.lemmas.List.{length-map}
use Rattle.std.specs.Prelude.{IsTrue, ◌≤◌}
use Rattle.std.specs.Arc.{arc_value}
use Rattle.apply_core.proofs.StreamLaws.{item_at}
use Rattle.apply_core.proofs.BesideLaws.{too_long, group_here, one_more_group, all_groups}
use Rattle.apply_core.proofs.beside.begins.Goals as goal

pub returns-then-front-whole : goal.returns-then-front-whole
returns-then-front-whole c =
    let longer : length (map arc_value c.args.whole.now) < length (map arc_value c.args.front.now) = omega (arith, length-map c.args.whole.now arc_value, length-map c.args.front.now arc_value, c.if-front-whole.true) in
    (λ is. absurd (false≢true is), λ all. absurd (too_long (map arc_value c.args.front.now) (map arc_value c.args.whole.now) longer all))

pub returns-then-not-same : goal.returns-then-not-same
returns-then-not-same c =
    let inside : c.loop-i.i < length c.args.whole.now = omega (arith, c.loop-i-test.true, c.if-front-whole.false) in
    let here : slice_get (map arc_value c.args.front.now) c.loop-i.i ≡ Some c.deref.result.now = item_at arc_value c.args.front.now c.loop-i.i c.index-front-i.result c.deref.result.now c.loop-i-test.true c.index-front-i.is c.deref.ensures in
    let there : slice_get (map arc_value c.args.whole.now) c.loop-i.i ≡ Some c.deref-in-loop-i.result.now = item_at arc_value c.args.whole.now c.loop-i.i c.index-whole-i.result c.deref-in-loop-i.result.now inside c.index-whole-i.is c.deref-in-loop-i.ensures in (
      λ is. absurd (false≢true is),
      λ all. subst IsTrue c.if-not-same.true (c.same.ensures.1 (group_here (map arc_value c.args.front.now) (map arc_value c.args.whole.now) c.loop-i.i _ _ here there all)),
    )

pub loop-i-preserved : goal.loop-i-preserved
loop-i-preserved c =
    let inside : c.loop-i.i < length c.args.whole.now = omega (arith, c.loop-i-test.true, c.if-front-whole.false) in
    let here : slice_get (map arc_value c.args.front.now) c.loop-i.i ≡ Some c.deref.result.now = item_at arc_value c.args.front.now c.loop-i.i c.index-front-i.result c.deref.result.now c.loop-i-test.true c.index-front-i.is c.deref.ensures in
    let there : slice_get (map arc_value c.args.whole.now) c.loop-i.i ≡ Some c.deref-in-loop-i.result.now = item_at arc_value c.args.whole.now c.loop-i.i c.index-whole-i.result c.deref-in-loop-i.result.now inside c.index-whole-i.is c.deref-in-loop-i.ensures in
    one_more_group (map arc_value c.args.front.now) (map arc_value c.args.whole.now) c.loop-i.i _ _ here there (c.same.ensures.0 (subst IsTrue (sym c.if-not-same.false) refl)) c.loop-i.invariant

pub returns : goal.returns
returns c = (
  λ _. all_groups (map arc_value c.args.front.now) (map arc_value c.args.whole.now) c.loop-i.i (subst (λ n. n ≤ c.loop-i.i) (sym (length-map c.args.front.now arc_value)) c.loop-i-test.false) c.loop-i.invariant,
  λ _. refl,
)
