use Rattle.feed_tests.proofs.feeds.growing.grown.Goals as goal

pub loop-place-preserved : goal.loop-place-preserved
loop-place-preserved c = (_, c.in_ok-more.ensures.groups c.loop-place.invariant.0 c.loop-place.invariant.1)
