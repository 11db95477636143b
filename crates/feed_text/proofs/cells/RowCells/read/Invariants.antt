use Rattle.std.proofs.Common.{length}
use Rattle.feed_text.proofs.cells.RowCells.read.Given as goal

abbrev pub decreases-loop-cell : goal.decreases-loop-cell
decreases-loop-cell l = length l.rest
