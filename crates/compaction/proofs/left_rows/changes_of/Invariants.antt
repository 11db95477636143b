use Rattle.std.proofs.Common.{◌≡◌, map, take}
use Rattle.compaction.specs.Private.LeftEntries.{change_of}
use Rattle.compaction.proofs.left_rows.changes_of.Given as goal

-- the changes so far are the touches so far
abbrev pub invariant-loop-touch : goal.invariant-loop-touch
invariant-loop-touch l = l.changes.items ≡ map change_of (take l.touch-index l.touches)
