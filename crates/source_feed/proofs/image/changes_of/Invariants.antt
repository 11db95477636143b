use Rattle.std.proofs.Common.{◌≡◌, map, take}
use Rattle.source_feed.specs.Private.ImageEntries.{change_of}
use Rattle.source_feed.proofs.image.changes_of.Given as goal

-- the changes so far are the touches so far
abbrev pub invariant-loop-touch : goal.invariant-loop-touch
invariant-loop-touch l = l.changes.items ≡ map change_of (take l.touch-index l.touches)
