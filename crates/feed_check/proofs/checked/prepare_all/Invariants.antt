use Rattle.std.proofs.Common.{◌≡◌, drop, map}
use Rattle.std.specs.Arc.{arc_value}
use Rattle.list_laws.specs.Outcome.{each}
use Rattle.source_feed.specs.Touches.{prepared}
use Rattle.feed_check.specs.Checked.{history_of}
use Rattle.feed_check.proofs.ListLaws.{in_front}
use Rattle.feed_check.proofs.checked.prepare_all.Given as goal

-- the groups so far stand in front of those that are left
abbrev pub invariant-loop-i : goal.invariant-loop-i
invariant-loop-i g l = history_of l.feed ≡ in_front (map arc_value l.groups.items) (each (prepared l.feed.plan) (drop l.i l.feed.groups))
