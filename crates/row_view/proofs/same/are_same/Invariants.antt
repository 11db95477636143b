use Rattle.std.proofs.Common.{◌≡◌, length}
use Rattle.row_view.proofs.same.are_same.Given as goal

-- the rows are equal exactly where the columns that are still to come are
abbrev pub invariant-loop-column : goal.invariant-loop-column
invariant-loop-column l = (l.columns ≡ l.others → l.fn.columns ≡ l.fn.others) × (l.fn.columns ≡ l.fn.others → l.columns ≡ l.others)

abbrev pub decreases-loop-column : goal.decreases-loop-column
decreases-loop-column l = length l.columns
