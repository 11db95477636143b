use Rattle.std.proofs.Common.{◌≡◌, length}
use Rattle.std.specs.Prelude.{◌||◌}
use Rattle.filter_text.specs.ColumnList.{has_twice}
use Rattle.filter_text.proofs.SeenLaws.{has_seen}
use Rattle.filter_text.proofs.list.ColumnList.repeats.Given as goal

-- a column stands twice where one that is left was seen, or stands twice among those that are left
abbrev pub invariant-loop-column : goal.invariant-loop-column
invariant-loop-column l = has_twice l.self ≡ (has_seen l.seen.keys l.left || has_twice l.left)

abbrev pub decreases-loop-column : goal.decreases-loop-column
decreases-loop-column l = length l.left
