use Rattle.std.proofs.Common.{◌≡◌, length}
use Rattle.filter_text.specs.ColumnList.{has_column}
use Rattle.filter_text.proofs.list.ColumnList.has.Given as goal

-- the name isn't among those before
abbrev pub invariant-loop-column : goal.invariant-loop-column
invariant-loop-column l = has_column l.name l.self ≡ has_column l.name l.left

abbrev pub decreases-loop-column : goal.decreases-loop-column
decreases-loop-column l = length l.left
