use Rattle.std.proofs.Common.{◌∙◌, ◌+◌, ◌<◌, refl, arith, length, take}
use Rattle.std.proofs.lemmas.Grind.{drop_more_same}
use Rattle.gtid_set.proofs.Merging.{over-nothing, next_of, left-later, left-at}
use Rattle.gtid_set.proofs.merge.merge.Goals as goal

pub loop-place-init : goal.loop-place-init
loop-place-init c = record { order = omega arith; length = refl; left = refl; canonical = tt; starts = over-nothing c.args.intervals.now.items; union = refl }

pub append_in_place-kept-requires-clause-inside : goal.append_in_place-kept-requires-clause-inside
append_in_place-kept-requires-clause-inside c = omega (arith, c.loop-place.invariant.order, c.loop-place.invariant.length, c.loop-place-test.true, c.len-place-end.ensures, c.args.intervals.now.ok.0)

pub append_in_place-kept-requires-clause-canonical : goal.append_in_place-kept-requires-clause-canonical
append_in_place-kept-requires-clause-canonical c = c.loop-place.invariant.canonical

pub append_in_place-kept-requires-clause-interval : goal.append_in_place-kept-requires-clause-interval
append_in_place-kept-requires-clause-interval c =
    let before = c.loop-place.invariant in
    let items = c.loop-place.intervals.items in
    let old = c.args.intervals.now.items in
    let lt : c.loop-place.place < length old = omega (arith, c.loop-place-test.true, c.len-place-end.ensures, c.args.intervals.now.ok.0) in
    (left-at (take c.loop-place.kept items) items old c.loop-place.place c.index.result.now lt c.index.ensures before.left c.requires.each before.starts).interval

pub append_in_place-kept-requires-clause-starts : goal.append_in_place-kept-requires-clause-starts
append_in_place-kept-requires-clause-starts c =
    let before = c.loop-place.invariant in
    let items = c.loop-place.intervals.items in
    let old = c.args.intervals.now.items in
    let lt : c.loop-place.place < length old = omega (arith, c.loop-place-test.true, c.len-place-end.ensures, c.args.intervals.now.ok.0) in
    (left-at (take c.loop-place.kept items) items old c.loop-place.place c.index.result.now lt c.index.ensures before.left c.requires.each before.starts).starts

pub loop-place-preserved : goal.loop-place-preserved
loop-place-preserved c =
    let before = c.loop-place.invariant in
    let items = c.loop-place.intervals.items in
    let old = c.args.intervals.now.items in
    let kept = c.loop-place.kept in
    let k = c.loop-place.place in
    let x = c.index.result.now in
    let lt : k < length old = omega (arith, c.loop-place-test.true, c.len-place-end.ensures, c.args.intervals.now.ok.0) in
    let here = left-at (take kept items) items old k x lt c.index.ensures before.left c.requires.each before.starts in
    let after = c.append_in_place-kept.new.set.items in
    let next = next_of (take kept items) old (take c.append_in_place-kept.result after) k x lt here.is before.canonical c.requires.each c.requires.rising before.starts c.append_in_place-kept.ensures.joined in
    record {
      order = omega (arith, before.order, c.append_in_place-kept.ensures.bound);
      length = c.append_in_place-kept.ensures.length ∙ before.length;
      left = left-later after items (kept + 1) (k + 1) (omega (arith, before.order)) c.append_in_place-kept.ensures.left ∙ drop_more_same items old k before.left;
      canonical = next.0.canonical;
      starts = next.0.starts;
      union = next.1 ∙ before.union;
    }
