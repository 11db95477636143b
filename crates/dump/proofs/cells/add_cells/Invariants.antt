use Rattle.dump.specs.Cells.{cells}
use Rattle.printing.specs.Private.Progress.{IsAddedTo}
use Rattle.dump.proofs.cells.add_cells.Given as goal

-- the cells that are added and those that are left are the whole
abbrev pub invariant-loop-column : goal.invariant-loop-column
invariant-loop-column g l = IsAddedTo (g.O.Out.written l.fn.out) l.fn.text (g.O.Out.written l.out) l.text (cells l.fn.columns) (cells l.column-iterator)
