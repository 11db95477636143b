use Rattle.std.proofs.Common.{drop}
use Rattle.json_pieces.specs.Telling.{IsToldUpTo, at}
use Rattle.compaction.specs.Private.Sized.{change_fields}
use Rattle.compaction.proofs.portion.put_changes.Given as goal

-- what is told and what is left are the whole
abbrev pub invariant-loop-row : goal.invariant-loop-row
invariant-loop-row g l = IsToldUpTo (at (g.O.Out.written l.fn.out) l.fn.line) (at (g.O.Out.written l.out) l.line) (change_fields l.rows) (change_fields (drop l.row-index l.rows))
