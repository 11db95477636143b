use Rattle.std.proofs.Common.{◌≡◌, ◌<◌, List, length, Ok}
use Rattle.source_feed.specs.EventList.{events_of_feed}
use Rattle.source_feed.specs.GroupValue.{GroupValue}
use Rattle.source_feed.specs.Groups.{groups}
use Rattle.feed_bytes.specs.Private.Search.{IsSought}
use Rattle.feed_bytes.proofs.cut.cut_behind.Given as goal

-- of a feed that opens some messages were passed, and groups are left
abbrev pub invariant-loop-message : goal.invariant-loop-message
invariant-loop-message l =
    ((all : List GroupValue) → groups l.feed l.source ≡ Ok all → IsSought l.source l.number (events_of_feed l.feed).items l.course l.rest) × (0 < l.course.left)

abbrev pub decreases-loop-message : goal.decreases-loop-message
decreases-loop-message l = length l.rest
