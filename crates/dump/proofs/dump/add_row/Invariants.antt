use Rattle.std.proofs.Common.{[], ◌∷◌, ◌++◌}
use Rattle.dump.specs.Dump.{row_line}
use Rattle.printing.specs.Private.Progress.{IsAddedTo}
use Rattle.dump.specs.Private.Partings.{parting, cells_left}
use Rattle.dump.proofs.dump.add_row.Given as goal

-- the cells that are added, those that are left and the end of the line are the whole
abbrev pub invariant-loop-column : goal.invariant-loop-column
invariant-loop-column g l =
    IsAddedTo (g.O.Out.written l.fn.out) l.fn.text (g.O.Out.written l.out) l.text (row_line l.fn.columns) (cells_left (parting l.is_first) l.column-iterator ++ 10 ∷ [])
