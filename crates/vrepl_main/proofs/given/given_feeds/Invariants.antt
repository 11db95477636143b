use Rattle.std.proofs.Common.{◌≡◌, take, map}
use Rattle.vrepl_main.specs.Given.{given_value}
use Rattle.vrepl_main.specs.HexText.{feed_bytes}
use Rattle.vrepl_main.proofs.given.given_feeds.Given as goal

-- the feeds so far
abbrev pub invariant-loop-feed : goal.invariant-loop-feed
invariant-loop-feed l = map given_value l.given.items ≡ map (λ feed. feed_bytes l.form feed.items) (take l.feed-index l.feeds)
