use Rattle.std.proofs.Common.{◌≡◌, List}
use Rattle.source_feed.specs.Touches.{PreparedValue}
use Rattle.feed_readers.specs.Ahead.{StandsReady}
use Rattle.feed_readers.proofs.ahead.group_of.Given as goal

-- what stands ready is of the feed; what was taken stood before the group of the number
abbrev pub invariant-loop : goal.invariant-loop
invariant-loop g l =
    (g.A.Ahead.feed l.ahead ≡ l.feed)
    × ((behind : List PreparedValue) → StandsReady l.number (g.A.Ahead.ready l.initial.ahead) behind → StandsReady l.number (g.A.Ahead.ready l.ahead) behind)
