use Rattle.source_feed.specs.Growing.{AreOfOneFeed}
use Rattle.feed_tests.proofs.feeds.growing.grown.Given as goal

abbrev pub invariant-loop-place : goal.invariant-loop-place
invariant-loop-place l = AreOfOneFeed l.feed l.end
