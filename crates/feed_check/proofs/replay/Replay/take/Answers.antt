use Rattle.std.proofs.Common.{◌≡◌, subst, List, Option}
use Rattle.pk_copy.specs.KeyOrder.{key_cmp}
use Rattle.pk_copy.specs.KeyValue.{KeyValue}
use Rattle.target_tables.specs.Touches.{last_at}
use Rattle.source_feed.specs.History.{RowValue}
use Rattle.feed_check.specs.Replay.{left_at}
use Rattle.feed_check.specs.Private.Replayed.{row_in}
use Rattle.feed_check.proofs.ReplayLaws.{replayed_more}
use Rattle.feed_check.proofs.replay.Replay.take.Goals as goal

pub returns : goal.returns
returns c = λ past h.
    let touched = subst (λ (touches : List (KeyValue × Option RowValue)). (key : KeyValue) → row_in c.touch.new.self key ≡ left_at (last_at key_cmp touches key) (row_in c.args.self.now.rows key)) c.in_ok-touches.ensures c.in_ok-touch.ensures in
    replayed_more c.args.change past _ _ _ _ _ _ _ c.in_ok-before.ensures c.in_ok-after.ensures c.in_ok-push_if.ensures c.in_ok-push_if-2.ensures touched h
