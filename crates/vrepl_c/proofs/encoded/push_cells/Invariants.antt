use Rattle.std.proofs.Common.{◌≡◌, ◌++◌}
use Rattle.vrepl_c.specs.Encoded.{cells_bytes}
use Rattle.vrepl_c.proofs.encoded.push_cells.Given as goal

-- the bytes so far and those of the columns that are left are the whole
abbrev pub invariant-loop-column : goal.invariant-loop-column
invariant-loop-column l = l.into.items ++ cells_bytes l.column-iterator ≡ l.fn.into.items ++ cells_bytes l.fn.columns
