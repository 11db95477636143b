use Rattle.std.proofs.Common.{◌≡◌, ◌++◌, drop}
use Rattle.vdiff_text.specs.ShownDifferences.{one_lines}
use Rattle.vdiff_text.proofs.columns.push_one_lines.Given as goal

-- the lines so far and those that are left are the whole
abbrev pub invariant-loop-i : goal.invariant-loop-i
invariant-loop-i l = l.text.items ++ one_lines l.table l.i (drop l.i l.row) ≡ l.fn.text.items ++ one_lines l.table 0 l.row
