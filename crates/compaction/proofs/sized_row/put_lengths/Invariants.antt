use Rattle.std.proofs.Common.{◌≤◌, ◌^◌, length}
use Rattle.row_view.specs.WrittenRow.{written_lengths, written_values}
use Rattle.json_pieces.specs.Telling.{IsToldUpTo, at}
use Rattle.compaction.proofs.sized_row.put_lengths.Given as goal

-- what is told and what is left are the whole, and the values that are left are within the limits
abbrev pub invariant-loop-column : goal.invariant-loop-column
invariant-loop-column g l =
    IsToldUpTo (at (g.O.Out.written l.fn.out) l.fn.line) (at (g.O.Out.written l.out) l.line) (written_lengths l.row) (written_lengths l.column-iterator)
    × (length (written_values l.column-iterator) ≤ 2 ^ 24)
