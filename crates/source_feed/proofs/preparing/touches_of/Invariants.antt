use Rattle.std.proofs.Common.{◌≡◌, drop}
use Rattle.source_feed.specs.Touches.{touches_of}
use Rattle.source_feed.specs.Private.TouchesBehind.{behind}
use Rattle.source_feed.proofs.preparing.touches_of.Given as goal

-- the touches so far, and those of the changes that follow, are the group's
abbrev pub invariant-loop-change : goal.invariant-loop-change
invariant-loop-change l =
    behind l.touches.items (touches_of l.plan l.group.number (drop l.change-index l.changes)) ≡ touches_of l.plan l.group.number l.changes
