use Rattle.row_view.specs.WrittenRow.{written_values}
use Rattle.json_pieces.specs.Telling.{IsToldUpTo, at}
use Rattle.compaction.proofs.sized_row.put_values.Given as goal

-- what is told and what is left are the whole
abbrev pub invariant-loop-column : goal.invariant-loop-column
invariant-loop-column g l = IsToldUpTo (at (g.O.Out.written l.fn.out) l.fn.line) (at (g.O.Out.written l.out) l.line) (written_values l.row) (written_values l.column-iterator)
