use Rattle.std.proofs.Common.{◌≡◌, ◌∙◌, refl, sym, ap, length, true, false, Some, take}
use Rattle.std.proofs.lemmas.Bool.{cond-true, cond-false}
use Rattle.std.proofs.lemmas.Option.{slice_get_read}
use Rattle.std.specs.Prelude.{slice_get}
use Rattle.std.specs.Option.{option_and_then}
use Rattle.std.specs.Ordering.{eq_by_cmp}
use Rattle.pk_copy.specs.KeyOrder.{key_cmp}
use Rattle.target_tables.specs.Touches.{last_at}
use Rattle.source_feed.specs.History.{passing}
use Rattle.source_feed.specs.Image.{kept_after}
use Rattle.source_feed.proofs.OneMoreLaws.{touch_more}
use Rattle.board_tests.proofs.boards.slow.row_after.Goals as goal
use Rattle.board_tests.proofs.boards.slow.row_after.Goals.{then-eq, else-eq}

pub loop-touch-preserved : goal.loop-touch-preserved
loop-touch-preserved c =
    let touches = c.args.touches.now in
    let i = c.loop-touch.touch-index in
    let touch = c.touch-item.result in
    let key = c.args.key.now in
    let stands : slice_get touches i ≡ Some touch = slice_get_read touches (length touches) i touch refl c.loop-touch-test.true c.touch-item.is in
    let more = touch_more touches i touch key c.args.before stands in
    let put = option_and_then passing touch.1 in
    let earlier = kept_after (last_at key_cmp (take i touches) key) c.args.before in
    let test : c.eq.result ≡ eq_by_cmp key_cmp key touch.0 = c.eq.ensures ∙ ap (eq_by_cmp key_cmp key) c.key.ensures in
    elim c.if-eq.branch [
      | then-eq w ↦ w.left-is ∙ w.passing_row-left.ensures ∙ sym (cond-true _ put earlier (sym test ∙ w.if-eq.true)) ∙ sym more
      | else-eq w ↦ w.left-is ∙ c.loop-touch.invariant ∙ sym (cond-false _ put earlier (sym test ∙ w.if-eq.false)) ∙ sym more
    ]
