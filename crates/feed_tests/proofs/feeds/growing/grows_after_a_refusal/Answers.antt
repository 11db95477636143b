use Rattle.std.proofs.Common.{[]}
use Rattle.source_feed.specs.Growing.{IsEndOf}
use Rattle.feed_tests.proofs.feeds.growing.grows_after_a_refusal.Goals as goal

pub grow-requires-3 : goal.grow-requires-3
grow-requires-3 c =
    let refused : IsEndOf [] c.grow.new.feed c.grow.new.self
    = rw (c.in-Err-Diverged-eq3.ensures.left.0, c.in-Err-Diverged-eq3.ensures.left.1) c.in_ok-feed.ensures.groups in
    (_, c.in_ok-none.ensures.groups [] refused)
