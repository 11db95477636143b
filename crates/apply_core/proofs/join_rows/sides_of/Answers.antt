use Rattle.std.proofs.Common.{◌≡◌, ◌≤◌, ◌+◌, ◌++◌, ◌∷◌, [], List, length, sym, ap, subst, ◌∙◌, arith}
use Rattle.std.proofs.lemmas.List.{length-append}
use Rattle.target_tables.specs.declared.merge_side.MergeSide.{MergeSide}
use Rattle.board_laws.specs.Meaning.{Meaning}
use Rattle.apply_core.specs.Private.Meeting.{AreSidesUpTo}
use Rattle.apply_core.proofs.FurtherLaws.{sided_more, all_sided}
use Rattle.apply_core.proofs.join_rows.sides_of.Goals as goal

pub loop-s-preserved : goal.loop-s-preserved
loop-s-preserved c =
    let sides : List MergeSide = c.loop-s.sides.items in
    let long : length (sides ++ c.side_from.result ∷ []) ≡ length sides + 1 = length-append sides (c.side_from.result ∷ []) in (
      ap (λ (l : List MergeSide). length l) c.in_ok-push.ensures.items ∙ long ∙ ap (λ n. n + 1) c.loop-s.invariant.0,
      subst (λ (l : List MergeSide). AreSidesUpTo (c.loop-s.s + 1) c.args.a.now.streams c.args.b.now.streams l) (sym c.in_ok-push.ensures.items)
          (sided_more c.args.a.now.streams c.args.b.now.streams c.loop-s.s sides c.is_further.result c.side_from.result c.loop-s.invariant.0 c.loop-s.invariant.1 c.is_further.ensures c.side_from.ensures),
    )

pub returns : goal.returns
returns c =
    let seen : length c.a.inside.streams.items ≡ length c.args.a.now.streams = ap (λ (m : Meaning). length m.streams) c.a.view_is in
    let most : length c.args.a.now.streams ≤ c.loop-s.s = omega (arith, seen) in
    all_sided c.args.a.now.streams c.args.b.now.streams c.loop-s.s c.loop-s.sides.items most c.loop-s.invariant.1
