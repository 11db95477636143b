use Rattle.std.proofs.Common.{◌≡◌, ◌∙◌, refl, sym, ap, length, map, Option, Some, List}
use Rattle.std.proofs.lemmas.Option.{slice_get_read, slice_get-map}
use Rattle.std.specs.Arc.{arc_value}
use Rattle.std.specs.Prelude.{slice_get}
use Rattle.std.specs.Option.{option_map}
use Rattle.pk_copy.specs.KeyOrder.{key_cmp}
use Rattle.target_tables.specs.Touches.{last_at}
use Rattle.source_feed.specs.History.{RowValue, passed_at}
use Rattle.source_feed.specs.Image.{kept_after}
use Rattle.source_feed.specs.Touches.{TouchValue}
use Rattle.source_feed.proofs.OneMoreLaws.{group_more}
use Rattle.feed_tests.proofs.feeds.slow.slow_row.Goals as goal

pub loop-group-preserved : goal.loop-group-preserved
loop-group-preserved c =
    let groups = c.args.groups.now in
    let i = c.loop-group.group-index in
    let group = c.group-item.result in
    let key = c.args.key.now in
    let stands : slice_get groups i ≡ Some group = slice_get_read groups (length groups) i group refl c.loop-group-test.true c.group-item.is in
    let at : slice_get (map arc_value groups) i ≡ Some (arc_value group) = slice_get-map arc_value groups i ∙ ap (option_map arc_value) stands in
    c.row_after-left.ensures
    ∙ ap (λ (ts : List TouchValue). kept_after (last_at key_cmp ts key) c.loop-group.left) (c.touches.ensures.touches ∙ ap (λ g. g.touches) c.deref.ensures)
    ∙ ap (λ (row : Option RowValue). kept_after (last_at key_cmp (arc_value group).touches key) row) c.loop-group.invariant
    ∙ sym (group_more (map arc_value groups) i (arc_value group) key at)
