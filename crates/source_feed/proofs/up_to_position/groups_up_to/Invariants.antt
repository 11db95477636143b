use Rattle.std.proofs.Common.{map}
use Rattle.std.specs.Arc.{arc_value}
use Rattle.source_feed.specs.SoundGroups.{AreFirst}
use Rattle.source_feed.proofs.up_to_position.groups_up_to.Given as goal

-- the groups so far are the first ones
abbrev pub invariant-loop-i : goal.invariant-loop-i
invariant-loop-i l = AreFirst l.feed l.i (map arc_value l.groups.items)
