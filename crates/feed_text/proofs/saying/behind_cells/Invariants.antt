use Rattle.dump.specs.Cells.{cells}
use Rattle.feed_text.specs.Private.SaidUpTo.{IsSaidUpTo}
use Rattle.feed_text.proofs.saying.behind_cells.Given as goal

-- the cells that were found and those that are left are the whole
abbrev pub invariant-loop-column : goal.invariant-loop-column
invariant-loop-column l = IsSaidUpTo l.fn.text l.rest (cells l.fn.columns) (cells l.column-iterator)
