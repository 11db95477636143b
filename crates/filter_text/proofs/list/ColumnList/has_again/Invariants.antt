use Rattle.std.proofs.Common.{◌≡◌, length}
use Rattle.filter_text.specs.ColumnList.{has_twice}
use Rattle.filter_text.proofs.list.ColumnList.has_again.Given as goal

-- none of those before stands twice
abbrev pub invariant-loop-column : goal.invariant-loop-column
invariant-loop-column l = has_twice l.self ≡ has_twice l.left

abbrev pub decreases-loop-column : goal.decreases-loop-column
decreases-loop-column l = length l.left
