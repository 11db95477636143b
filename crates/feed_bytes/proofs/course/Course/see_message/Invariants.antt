use Rattle.std.proofs.Common.{◌≡◌, ◌<◌, length}
use Rattle.feed_bytes.specs.Private.Course.{walked}
use Rattle.feed_bytes.proofs.course.Course.see_message.Given as goal

-- from here on the walk is the one from the first event on, and groups are left
abbrev pub invariant-loop-bytes : goal.invariant-loop-bytes
invariant-loop-bytes l = (walked l.source l.self l.events ≡ walked l.source l.fn.self l.fn.events) × (0 < l.self.left)

abbrev pub decreases-loop-bytes : goal.decreases-loop-bytes
decreases-loop-bytes l = length l.events
