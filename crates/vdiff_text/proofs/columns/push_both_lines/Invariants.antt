use Rattle.std.proofs.Common.{◌≡◌, ◌++◌, drop}
use Rattle.vdiff_text.specs.ShownDifferences.{both_lines}
use Rattle.vdiff_text.proofs.columns.push_both_lines.Given as goal

-- the lines so far and those that are left are the whole
abbrev pub invariant-loop-i : goal.invariant-loop-i
invariant-loop-i l = l.text.items ++ both_lines l.table l.i (drop l.i l.row) (drop l.i l.there) ≡ l.fn.text.items ++ both_lines l.table 0 l.row l.there
